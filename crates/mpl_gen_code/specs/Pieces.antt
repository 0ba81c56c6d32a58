-- Pieces of code, by the place where they stand, since jumps name places.
use Rattle.std.specs.Prelude.{ℕ, ◌+◌, Bool, true, false, List, [], ◌∷◌, ◌++◌, length}
use Rattle.mdf_code.specs.declared.instr.Instr.{Instr}
use Rattle.mdf_code.specs.declared.instr.Instr.TheVariants as instr

abbrev pub Piece : Type 0
Piece = ℕ → List Instr

abbrev pub no_code : Piece
no_code base = []

abbrev pub one : Instr → Piece
one instruction base = instruction ∷ []

-- one after another
abbrev pub joined : Piece → Piece → Piece
joined first second base = first base ++ second (base + length (first base))

abbrev pub followed_by : Piece → Instr → Piece
followed_by piece instruction base = piece base ++ instruction ∷ []

abbrev pub where_marked : Bool → Piece → Piece
where_marked true piece = piece
where_marked false piece = no_code

abbrev pub all_joined : List Piece → Piece
all_joined [] = no_code
all_joined (piece ∷ pieces) = joined piece (all_joined pieces)

-- ---- where a word decides

-- passed over where the word is 0
abbrev pub unless_zero : Piece → Piece
unless_zero piece base = instr.JumpZero (base + 1 + length (piece (base + 1))) ∷ piece (base + 1)

-- the first where the word is another than 0, and the second where it is 0
abbrev pub either : Piece → Piece → Piece
either first second base = before (length (first (base + 1))) where
  -- the second stands behind the first, and behind a jump at its end
  before : ℕ → List Instr
  before count =
      instr.JumpZero (base + 1 + count + 1)
      ∷ (first (base + 1) ++ (instr.Jump (base + 1 + count + 1 + length (second (base + 1 + count + 1))) ∷ second (base + 1 + count + 1)))

-- a turn and a test, and then the body and the way back, as long as the word is another than 0
abbrev pub loop : Piece → Piece → Piece
loop test body base = joined (one instr.Test) (joined test (unless_zero (followed_by body (instr.Jump base)))) base
