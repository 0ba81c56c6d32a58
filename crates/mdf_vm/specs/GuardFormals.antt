-- The formals that a guard reads.
use Rattle.std.specs.Prelude.{◌≡◌, ℕ, ℤ, List, map, length, slice_get, Option, Some, None}
use Rattle.mdf_code.specs.declared.raw.RawEntry.{RawEntry}
use Rattle.mdf_code.specs.declared.raw.RawImage.{RawImage}
use Rattle.mdf_code.specs.declared.raw.RawMember.{RawMember}
use Rattle.mdf_code.specs.Parts.{sizes_of_formals}
use Rattle.mdf_code.specs.Stacks.{given}

-- a word of a formal
abbrev pub word_of : List (List ℤ) → ℕ → ℕ → Option ℤ
word_of formals formal at = given (slice_get formals formal) (λ words. slice_get words at)

abbrev pub MemberHas : List (List ℤ) → Option RawMember → Type 0
MemberHas formals None = Unit {0}
MemberHas formals (Some m) = map length formals ≡ sizes_of_formals m

-- the formals of the entry's member, each with as many words as the image gives it
abbrev pub EntryHas : RawImage → List (List ℤ) → Option RawEntry → Type 0
EntryHas image formals None = Unit {0}
EntryHas image formals (Some entry) = MemberHas formals (slice_get image.members entry.member.0)
