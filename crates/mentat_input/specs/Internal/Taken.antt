-- The numbers of bytes as code makes them.
use Rattle.std.specs.Prelude.{◌≡◌, ◌^◌, ℕ, nat_lt, List, Option, Some, None, Result, Ok, Err, if◌then◌else◌, ℤ}
use Rattle.mentat_input.specs.Words.{numbers_of, value_of}
use Rattle.mentat_input.specs.declared.fault.InputFault.{InputFault}
use Rattle.mentat_input.specs.declared.fault.InputFault.TheVariants as fault

-- what digits spell, where 64 bits without a sign hold it
abbrev pub unsigned_of : List ℕ → Option ℕ
unsigned_of digits = if nat_lt (value_of digits) (2 ^ 64) then Some (value_of digits) else None

-- the numbers that some bytes have, or the first byte of a word that is none
abbrev pub HasNumbers : List ℕ → Result (List ℤ) InputFault → Type 0
HasNumbers bytes (Ok numbers) = numbers_of bytes ≡ Ok numbers
HasNumbers bytes (Err (fault.BadInput at)) = numbers_of bytes ≡ Err at
HasNumbers bytes (Err fault.NoMemory) = Unit {0}
HasNumbers bytes (Err fault.ReadFault) = ⊥
HasNumbers bytes (Err fault.TooLong) = ⊥
