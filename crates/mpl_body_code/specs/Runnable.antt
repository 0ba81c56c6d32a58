-- Numbers in code that are small enough to be counted on from a place.
use Rattle.std.specs.Prelude.{ℕ, ◌^◌, ◌&&◌, Bool, true, nat_lt, List}
use Rattle.std.specs.List.{list_all}
use Rattle.mpl_body_code.specs.declared.instruction.Instruction.{Instruction}
use Rattle.mpl_body_code.specs.declared.instruction.Instruction.TheVariants as instruction

abbrev pub is_counted : ℕ → Bool
is_counted n = nat_lt n (2 ^ 63)

-- what a jump passes over, and where the words of an element may lie
abbrev pub numbers_fit : Instruction → Bool
numbers_fit (instruction.Or count) = is_counted count
numbers_fit (instruction.And count) = is_counted count
numbers_fit (instruction.Unless count) = is_counted count
numbers_fit (instruction.Skip count) = is_counted count
numbers_fit (instruction.PutElement line spot) = is_counted spot.offset && is_counted spot.words
numbers_fit other = true

abbrev pub is_runnable : List Instruction → Bool
is_runnable code = list_all numbers_fit code
