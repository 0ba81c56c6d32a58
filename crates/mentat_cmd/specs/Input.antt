-- What became of the input in a command.
use Rattle.std.specs.Prelude.{◌≡◌, ℕ, ℤ, List, Option, Result, take, ◌+◌}
use Rattle.mentat_io.specs.Causes.{Rose}
use Rattle.mentat_input.specs.Limits.{most_input_bytes}
use Rattle.mentat_input.specs.Reads.{IsInput, IsRead}
use Rattle.mentat_input.specs.declared.fault.InputFault.{InputFault}

-- It is as before, these bytes were read of it, or a read of it failed.
pub record Input : Type 1 where
  pub untouched : Type 0
  pub read : List ℕ → Type 0
  pub fault : Type 0

-- a source, by what it has left and by its count of faults, before and after, and whether it is as before
abbrev pub input_of : Option (List ℕ) → Option (List ℕ) → ℕ → ℕ → Type 0 → Input
input_of before after old new same = record { untouched = same; read = IsRead before after; fault = Rose old new }

-- one that has these bytes left, of which nothing else is said
abbrev pub told_input : List ℕ → Input
told_input left = record {
  untouched = Unit {0};
  read = λ bytes. bytes ≡ take (most_input_bytes + 1) left;
  fault = Unit {0};
}

-- it was read, and is this
abbrev pub Finds : Input → Result (List ℤ) InputFault → Type 0
Finds input answer = (bytes : List ℕ) × input.read bytes × IsInput bytes answer
