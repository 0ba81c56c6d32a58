-- Which nodes are marked.
use Rattle.std.specs.Prelude.{ℕ, Bool, List, nat_eq}
use Rattle.std.specs.List.{list_any}

abbrev pub marked : List ℕ → ℕ → Bool
marked nodes node = list_any (nat_eq node) nodes
