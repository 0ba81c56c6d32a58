-- What reading a piece says of the bytes that were left.
use Rattle.std.specs.Prelude.{◌≡◌, ℕ, ◌≤◌, List, [], Option, length, take, IfSome}

-- the first n bytes of what was left stand at the front of buf
abbrev pub GivesStart : List ℕ → ℕ → List ℕ → Type 0
GivesStart left n buf = (n ≤ length left) × (take n buf ≡ take n left)

-- no byte is left, where that is told
abbrev pub IsAtEnd : Option (List ℕ) → Type 0
IsAtEnd left = IfSome left (λ xs. xs ≡ [])
