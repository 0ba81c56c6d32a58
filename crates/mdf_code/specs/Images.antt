-- What holds of each image.
use Rattle.std.specs.Prelude.{ℕ, zero, suc, ◌+◌, Bool, true, false, ◌&&◌, ◌||◌, ◌==◌, nat_lt, nat_le, List, [], ◌∷◌, length, slice_get, Option, Some, None}
use Rattle.std.specs.List.{list_all, range_with_len}
use Rattle.mdf_code.specs.declared.instr.Instr.{Instr}
use Rattle.mdf_code.specs.declared.instr.Instr.TheVariants as instr
use Rattle.mdf_code.specs.declared.raw.RawClass.{RawClass}
use Rattle.mdf_code.specs.declared.raw.RawCode.{RawCode}
use Rattle.mdf_code.specs.declared.raw.RawEntry.{RawEntry}
use Rattle.mdf_code.specs.declared.raw.RawFunction.{RawFunction}
use Rattle.mdf_code.specs.declared.raw.RawImage.{RawImage}
use Rattle.mdf_code.specs.declared.raw.RawMember.{RawMember}

-- ---- limits

-- the most words of a variable, of a state and of a member's result
abbrev pub most_words : ℕ
most_words = 1024

abbrev pub most_formals : ℕ
most_formals = 16

-- ---- loops

-- the places where a code may go on from an instruction at a place without a test
abbrev pub ways_on : Instr → ℕ → List ℕ
ways_on (instr.Jump target) place = target ∷ []
ways_on (instr.JumpZero target) place = target ∷ (place + 1) ∷ []
ways_on instr.Test place = []
ways_on (instr.Return count) place = []
ways_on (instr.End line) place = []
ways_on (instr.Fail line) place = []
ways_on other place = (place + 1) ∷ []

abbrev pub all_ways : (ℕ → Bool) → Option Instr → ℕ → Bool
all_ways passes None place = true
all_ways passes (Some instruction) place = list_all passes (ways_on instruction place)

-- each way on from a place comes to a test or an end within so many instructions
abbrev pub passes : List Instr → ℕ → ℕ → Bool
passes code zero place = all_ways (λ _. false) (slice_get code place) place
passes code (suc within) place = all_ways (passes code within) (slice_get code place) place

-- each way round a loop passes a test
abbrev pub loops_pass : List Instr → Bool
loops_pass code = list_all (passes code (length code)) (range_with_len 0 (length code))

-- ---- the parts of an image

-- `i` or `b`
abbrev pub is_letter : ℕ → Bool
is_letter byte = (byte == 105) || (byte == 98)

abbrev pub is_line : List ℕ → Bool
is_line [] = false
is_line (letter ∷ letters) = list_all is_letter (letter ∷ letters)

-- a line has one or more letters
abbrev pub letters_fit : Instr → Bool
letters_fit (instr.Print letters) = is_line letters
letters_fit other = true

abbrev pub words_fit : ℕ → Bool
words_fit words = nat_le words most_words

abbrev pub is_code : RawCode → Bool
is_code body = list_all words_fit body.vars && (list_all letters_fit body.code && loops_pass body.code)

abbrev pub is_function : RawFunction → Bool
is_function f = nat_le f.formals (length f.body.vars) && is_code f.body

abbrev pub is_class : RawClass → Bool
is_class class = words_fit class.words

abbrev pub result_fits : Option ℕ → Bool
result_fits None = true
result_fits (Some words) = words_fit words

abbrev pub is_member : RawMember → Bool
is_member m = nat_le m.formals (length m.body.vars) && (nat_le m.formals most_formals && (result_fits m.result && is_code m.body))

-- ---- guards

-- A guard computes on words, reads formals and the state, and jumps forward.
abbrev pub stands_in_guard : ℕ → Instr → Bool
stands_in_guard place (instr.Push word) = true
stands_in_guard place (instr.Drop count) = true
stands_in_guard place (instr.Load variable offset count) = true
stands_in_guard place (instr.LoadIndexed variable offset count line) = true
stands_in_guard place (instr.Fetch offset count) = true
stands_in_guard place (instr.FetchIndexed offset count line) = true
stands_in_guard place (instr.Add line) = true
stands_in_guard place (instr.Sub line) = true
stands_in_guard place (instr.Mul line) = true
stands_in_guard place (instr.Div line) = true
stands_in_guard place (instr.Rem line) = true
stands_in_guard place (instr.Neg line) = true
stands_in_guard place instr.Not = true
stands_in_guard place instr.Equal = true
stands_in_guard place instr.NotEqual = true
stands_in_guard place instr.Less = true
stands_in_guard place instr.LessEqual = true
stands_in_guard place instr.Greater = true
stands_in_guard place instr.GreaterEqual = true
stands_in_guard place (instr.Jump target) = nat_lt place target
stands_in_guard place (instr.JumpZero target) = nat_lt place target
stands_in_guard place other = false

-- from this place on
abbrev pub is_guard_from : ℕ → List Instr → Bool
is_guard_from place [] = true
is_guard_from place (instruction ∷ code) = stands_in_guard place instruction && is_guard_from (place + 1) code

abbrev pub guard_fits : Option (List Instr) → Bool
guard_fits None = true
guard_fits (Some guard) = is_guard_from 0 guard

abbrev pub is_entry : RawEntry → Bool
is_entry entry = guard_fits entry.guard

-- ---- images

abbrev pub is_image : RawImage → Bool
is_image image =
    list_all is_function image.functions && (list_all is_class image.classes && (list_all is_member image.members
    && (list_all is_entry image.entries && is_code image.main)))
