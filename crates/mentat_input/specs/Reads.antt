-- What reading an input says of it.
use Rattle.std.specs.Prelude.{◌≡◌, ◌⊎◌, ◌+◌, ◌<◌, ◌≤◌, ℕ, List, length, take, drop, Option, option_map, Result, Ok, Err, IfSome, ℤ}
use Rattle.mentat_io.specs.Source.{IsAtEnd}
use Rattle.mentat_input.specs.Limits.{most_input_bytes, most_input_numbers}
use Rattle.mentat_input.specs.Words.{numbers_of}
use Rattle.mentat_input.specs.declared.fault.InputFault.{InputFault}
use Rattle.mentat_input.specs.declared.fault.InputFault.TheVariants as fault

-- The bytes that were read of a source are all that it had left. Where it had more than an input may have, they are the
-- first ones, one more than the limit, and the others are left.
pub record IsRead (before after : Option (List ℕ)) (bytes : List ℕ) : Type 0 where
  pub short : length bytes ≤ most_input_bytes + 1
  pub front : IfSome before (λ left. bytes ≡ take (most_input_bytes + 1) left)
  pub rest : after ≡ option_map (λ left. drop (most_input_bytes + 1) left) before
  pub end : length bytes ≤ most_input_bytes → IsAtEnd after

-- they are numbers, and more than an input may have
pub record HasManyNumbers (bytes : List ℕ) : Type 0 where
  pub numbers : List ℤ
  pub are : numbers_of bytes ≡ Ok numbers
  pub many : most_input_numbers < length numbers

-- What the bytes of an input are: its numbers, or what is wrong with it. Too many bytes come before a word that is no
-- number, and such a word before too many numbers.
abbrev pub IsInput : List ℕ → Result (List ℤ) InputFault → Type 0
IsInput bytes (Ok numbers) = (length bytes ≤ most_input_bytes) × (numbers_of bytes ≡ Ok numbers) × (length numbers ≤ most_input_numbers)
IsInput bytes (Err fault.TooLong) = (most_input_bytes < length bytes) ⊎ HasManyNumbers bytes
IsInput bytes (Err (fault.BadInput at)) = (length bytes ≤ most_input_bytes) × (numbers_of bytes ≡ Err at)
IsInput bytes (Err fault.ReadFault) = ⊥
IsInput bytes (Err fault.NoMemory) = Unit {0}

-- What reading an input answers: what its bytes are, unless a read failed or memory lacked.
abbrev pub Reads : (before after : Option (List ℕ)) → Result (List ℤ) InputFault → Type 0
Reads before after (Err fault.ReadFault) = Unit {0}
Reads before after (Err fault.NoMemory) = Unit {0}
Reads before after (Err fault.TooLong) = (bytes : List ℕ) × IsRead before after bytes × IsInput bytes (Err fault.TooLong)
Reads before after (Err (fault.BadInput at)) = (bytes : List ℕ) × IsRead before after bytes × IsInput bytes (Err (fault.BadInput at))
Reads before after (Ok numbers) = (bytes : List ℕ) × IsRead before after bytes × IsInput bytes (Ok numbers)

-- an answer that the bytes alone decide
abbrev pub IsDecided : Result (List ℤ) InputFault → Type 0
IsDecided (Ok numbers) = Unit {0}
IsDecided (Err fault.TooLong) = Unit {0}
IsDecided (Err (fault.BadInput at)) = Unit {0}
IsDecided (Err fault.ReadFault) = ⊥
IsDecided (Err fault.NoMemory) = ⊥
