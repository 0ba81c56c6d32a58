-- Marks on the places of a code, from which each way on comes to a test or an end.
use Rattle.std.specs.Prelude.{ℕ, ◌≡◌, ◌<◌, Bool, true, List, length, slice_get, slice_index_or, cond}
use Rattle.std.specs.List.{sum_by}
use Rattle.mdf_code.specs.declared.instr.Instr.{Instr}
use Rattle.mdf_code.specs.Images.{all_ways, passes}

-- a place is marked, or past the end
abbrev pub is_marked : List Bool → ℕ → Bool
is_marked marked place = slice_index_or marked place true

-- how many places are marked
abbrev pub marks : List Bool → ℕ
marks = sum_by (λ mark. cond mark 1 0)

-- each way on from a marked place comes to a test or an end within as many instructions as there are marks
abbrev pub IsRight : List Instr → List Bool → Type 0
IsRight code marked = (place : ℕ) → place < length code → is_marked marked place ≡ true → passes code (marks marked) place ≡ true

-- a place is marked where each way on from it leads to a mark
abbrev pub IsClosed : List Instr → List Bool → Type 0
IsClosed code marked =
    (place : ℕ) → place < length code → all_ways (is_marked marked) (slice_get code place) place ≡ true → is_marked marked place ≡ true
