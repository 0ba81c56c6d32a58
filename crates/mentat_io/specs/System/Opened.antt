-- What was read of a reader, or of a file that was opened.
use Rattle.std.specs.Prelude.{◌≡◌, ℕ, List, Option, take, IfSome, IfOk, Result}

-- the first `cap` of the bytes that a reader had left, where these are known
abbrev pub IsStart : ℕ → Option (List ℕ) → List ℕ → Type 0
IsStart cap left bytes = IfSome left (λ xs. bytes ≡ take cap xs)
