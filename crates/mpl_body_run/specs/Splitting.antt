-- Words in pieces of these lengths.
use Rattle.std.specs.Prelude.{ℕ, List, [], ◌∷◌, take, drop, ℤ}

abbrev pub split_by : List ℕ → List ℤ → List (List ℤ)
split_by [] words = []
split_by (count ∷ counts) words = take count words ∷ split_by counts (drop count words)
