-- What is said of a source that was run.
use Rattle.std.specs.Prelude.{◌≡◌, ℕ, Bool, true, false, ℤ, List, [], Result, Ok, Err}
use Rattle.mpl_value.specs.declared.body.Yield.{Yield}
use Rattle.mentat_input.specs.declared.fault.InputFault.{InputFault}
use Rattle.mentat_input.specs.declared.fault.InputFault.TheVariants as fault
use Rattle.mentat_cmd.specs.declared.run.Rejection.{Rejection}
use Rattle.mentat_cmd.specs.declared.run.Rejection.TheVariants as rejection
use Rattle.mentat_cmd.specs.declared.status.Status.{Status}
use Rattle.mentat_cmd.specs.declared.status.Status.TheVariants as status
use Rattle.mentat_cmd.specs.Answer.{IsGiven, MayRead}
use Rattle.mentat_cmd.specs.Input.{Finds, Input}
use Rattle.mentat_cmd.specs.Program.{IsRefused, IsUnbuilt, NeedsInput, Runs}

-- ---- before the input

-- why a source is not run, whatever its input is
abbrev pub IsRejected : List ℕ → Rejection → Type 0
IsRejected source (rejection.Refused refusal) = IsRefused source refusal
IsRejected source (rejection.Unbuilt at) = IsUnbuilt source at
IsRejected source (rejection.Input e) = ⊥
IsRejected source rejection.NoMemory = Unit {0}

-- ---- the input

-- the input is this, unless a read failed or memory lacked
abbrev pub Reading : Input → Result (List ℤ) InputFault → Type 0
Reading input (Ok numbers) = Finds input (Ok numbers)
Reading input (Err (fault.BadInput at)) = Finds input (Err (fault.BadInput at))
Reading input (Err fault.TooLong) = Finds input (Err fault.TooLong)
Reading input (Err fault.ReadFault) = input.fault
Reading input (Err fault.NoMemory) = Unit {0}

-- the numbers of a run, which asks for its input or does not
abbrev pub Giving : Bool → Input → Result (List ℤ) InputFault → Type 0
Giving true input answer = Reading input answer
Giving false input (Ok numbers) = input.untouched × (numbers ≡ [])
Giving false input (Err e) = ⊥

-- ---- runs

pub record HasRun (budget : ℕ) (source : List ℕ) (input : Input) (y : Yield) : Type 0 where
  pub numbers : List ℤ
  pub given : IsGiven source input numbers
  pub runs : Runs budget source numbers y

-- what is said of a source and its input: its run, or why there is none
abbrev pub Ran : ℕ → List ℕ → Input → Result Yield Rejection → Type 0
Ran budget source input (Ok y) = HasRun budget source input y
Ran budget source input (Err (rejection.Refused refusal)) = IsRefused source refusal × input.untouched
Ran budget source input (Err (rejection.Unbuilt at)) = IsUnbuilt source at × input.untouched
Ran budget source input (Err (rejection.Input e)) = NeedsInput source × Reading input (Err e)
Ran budget source input (Err rejection.NoMemory) = MayRead source input

-- the status of a fault of the input
abbrev pub fault_status : InputFault → Status
fault_status fault.ReadFault = status.ReadFault
fault_status fault.TooLong = status.TooLong
fault_status (fault.BadInput at) = status.BadInput at
fault_status fault.NoMemory = status.NoMemory
