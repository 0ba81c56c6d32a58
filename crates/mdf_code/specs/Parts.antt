-- The parts of an image by their numbers, and what may stand in a code.
use Rattle.std.specs.Prelude.{ℕ, Bool, true, false, not, nat_lt, nat_le, List, [], ◌∷◌, ◌++◌, map, take, drop, length, slice_get, Option, Some, None, ℤ}
use Rattle.std.specs.Option.{option_map, unwrap_or}
use Rattle.mpl_value.specs.Words.{zeros}
use Rattle.mdf_code.specs.declared.instr.Instr.{Instr}
use Rattle.mdf_code.specs.declared.raw.RawClass.{RawClass}
use Rattle.mdf_code.specs.declared.raw.RawCode.{RawCode}
use Rattle.mdf_code.specs.declared.raw.RawEntry.{RawEntry}
use Rattle.mdf_code.specs.declared.raw.RawFunction.{RawFunction}
use Rattle.mdf_code.specs.declared.raw.RawImage.{RawImage}
use Rattle.mdf_code.specs.declared.raw.RawMember.{RawMember}
use Rattle.mdf_code.specs.Frames.{Code, InMain, InFunction, InMember, InGuard}
use Rattle.mdf_code.specs.Stacks.{given}

-- ---- codes

-- the variables of a guard are the formals of its member
abbrev pub guard_code : RawImage → RawEntry → List Instr → Option RawCode
guard_code image entry guard =
    given (slice_get image.members entry.member.0) (λ m. Some (record { vars = take m.formals m.body.vars; code = guard }))

abbrev pub code_of : RawImage → Code → Option RawCode
code_of image InMain = Some image.main
code_of image (InFunction function) = option_map (λ (f : RawFunction). f.body) (slice_get image.functions function)
code_of image (InMember member) = option_map (λ (m : RawMember). m.body) (slice_get image.members member)
code_of image (InGuard entry) = given (slice_get image.entries entry) (λ e. given e.guard (guard_code image e))

abbrev pub text_of : Option RawCode → List Instr
text_of None = []
text_of (Some code) = code.code

abbrev pub sizes_of : Option RawCode → List ℕ
sizes_of None = []
sizes_of (Some code) = code.vars

abbrev pub text_at : RawImage → Code → List Instr
text_at image code = text_of (code_of image code)

-- the counts of words of a code's variables
abbrev pub sizes_at : RawImage → Code → List ℕ
sizes_at image code = sizes_of (code_of image code)

-- A place of a code. The place behind a guard is one of its code too.
abbrev pub is_place : RawImage → Code → ℕ → Bool
is_place image (InGuard entry) place = nat_le place (length (text_at image (InGuard entry)))
is_place image code place = nat_lt place (length (text_at image code))

-- ---- members and classes

abbrev pub class_is_regular : Option RawClass → Option Bool
class_is_regular None = None
class_is_regular (Some class) = Some class.regular

-- whether a member's class is regular
abbrev pub is_regular : RawImage → RawMember → Option Bool
is_regular image m = class_is_regular (slice_get image.classes m.class)

-- a void member's result has no words
abbrev pub result_words : Option ℕ → ℕ
result_words None = 0
result_words (Some words) = words

abbrev pub sizes_of_formals : RawMember → List ℕ
sizes_of_formals m = take m.formals m.body.vars

-- ---- what may stand in a code

abbrev pub is_main : Code → Bool
is_main InMain = true
is_main other = false

abbrev pub is_persistent_member : RawImage → Option RawMember → Bool
is_persistent_member image None = false
is_persistent_member image (Some m) = not (unwrap_or (is_regular image m) true)

-- `self` stands in members of persistent classes
abbrev pub has_object : RawImage → Code → Bool
has_object image (InMember member) = is_persistent_member image (slice_get image.members member)
has_object image InMain = false
has_object image (InFunction function) = false
has_object image (InGuard entry) = false

-- a state is read and written in members of persistent classes, and read in guards
abbrev pub has_state : RawImage → Code → Bool
has_state image (InGuard entry) = true
has_state image code = has_object image code

-- calls on regular members stand in `main` and members
abbrev pub may_send : Code → Bool
may_send InMain = true
may_send (InMember member) = true
may_send (InFunction function) = false
may_send (InGuard entry) = false

-- calls on persistent members, and new objects, stand in `main` and in members of persistent classes
abbrev pub may_post : RawImage → Code → Bool
may_post image InMain = true
may_post image (InMember member) = has_object image (InMember member)
may_post image (InFunction function) = false
may_post image (InGuard entry) = false

abbrev pub function_of : RawImage → Code → Option RawFunction
function_of image (InFunction function) = slice_get image.functions function
function_of image InMain = None
function_of image (InMember member) = None
function_of image (InGuard entry) = None

-- the words of the result that a member with a value gives
abbrev pub given_words : RawImage → Code → Option ℕ
given_words image (InMember member) = given (slice_get image.members member) (λ m. m.result)
given_words image InMain = None
given_words image (InFunction function) = None
given_words image (InGuard entry) = None

-- ---- variables at a start

-- the words of each formal
abbrev pub split_words : List ℕ → List ℤ → List (List ℤ)
split_words [] words = []
split_words (size ∷ sizes) words = take size words ∷ split_words sizes (drop size words)

-- the formals hold these words, and all other variables zeros
abbrev pub variables_holding : ℕ → List ℕ → List ℤ → List (List ℤ)
variables_holding formals sizes words = split_words (take formals sizes) words ++ map zeros (drop formals sizes)
