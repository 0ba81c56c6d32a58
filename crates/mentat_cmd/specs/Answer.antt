-- What a command answers, and why.
use Rattle.std.specs.Prelude.{◌≡◌, ◌⊎◌, ℕ, ◌+◌, ◌<◌, ◌≤◌, Bool, true, false, ℤ, List, [], Option, Some, None, Ok, Err, length, IfSome, IsSome, IsTrue}
use Rattle.mentat_io.specs.Causes.{Rose}
use Rattle.mentat_io.specs.Shelf.{Files, IsStartOf, file_named}
use Rattle.mpl_mean.specs.Limits.{most_source_bytes}
use Rattle.mpl_value.specs.declared.body.BodyEnd.{BodyEnd}
use Rattle.mpl_value.specs.declared.body.BodyEnd.TheVariants as end
use Rattle.mpl_value.specs.declared.body.Yield.{Yield}
use Rattle.mentat_cmd.specs.declared.status.Status.{Status}
use Rattle.mentat_cmd.specs.declared.status.Status.TheVariants as status
use Rattle.mentat_input.specs.declared.fault.InputFault.TheVariants as fault
use Rattle.mentat_cmd.specs.Input.{Finds, Input, told_input}
use Rattle.mentat_cmd.specs.Message.{message}
use Rattle.mentat_cmd.specs.Output.{Appends, AppendsFront}
use Rattle.mentat_cmd.specs.Program.{IsRefused, IsUnbuilt, NeedsInput, Runs, asks_for_input}

-- The bytes that were read are those of the file. Of a longer file than a source may be they are the first ones, one
-- more than the limit, and no more are read of a file that isn't told.
abbrev pub IsRead : Option Files → List ℕ → List ℕ → Type 0
IsRead files name source = (length source ≤ most_source_bytes + 1) × IfSome files (λ fs. IsStartOf (most_source_bytes + 1) fs name source)

-- ---- streams

-- What became of a stream in a command: that all of some bytes were written, that a front of them was, and that a write
-- failed.
pub record Stream : Type 1 where
  pub whole : List ℕ → Type 0
  pub front : List ℕ → Type 0
  pub fault : Type 0

-- a sink, by what was written to it and by its count of faults, before and after
abbrev pub stream : Option (List ℕ) → Option (List ℕ) → ℕ → ℕ → Stream
stream before after old new = record { whole = Appends before after; front = AppendsFront before after; fault = Rose old new }

-- one of which nothing is said
abbrev pub any_stream : Stream
any_stream = record { whole = λ bytes. Unit {0}; front = λ bytes. Unit {0}; fault = Unit {0} }

-- A message goes as far as the stream takes it.
abbrev pub Says : Stream → List ℕ → Type 0
Says err text = err.whole text ⊎ (err.front text × err.fault)

-- ---- runs

-- a run whose lines are written has the status
abbrev pub IsStatusOf : BodyEnd → Status → Type 0
IsStatusOf e status.Done = e ≡ end.Done
IsStatusOf e (status.Trap trap) = e ≡ end.Trap trap
IsStatusOf e status.Stuck = e ≡ end.Waits
IsStatusOf e _ = ⊥

-- a run whose lines are written: its turns didn't run out
abbrev pub IsWritten : BodyEnd → Type 0
IsWritten end.Done = Unit {0}
IsWritten (end.Trap trap) = Unit {0}
IsWritten end.Waits = Unit {0}
IsWritten end.Spent = ⊥

-- how a run ended that isn't done
abbrev pub IsReported : Status → Type 0
IsReported (status.Trap trap) = Unit {0}
IsReported status.Stuck = Unit {0}
IsReported _ = ⊥

-- a write of the lines failed, or one of the message behind them
abbrev pub IsUnwritten : Yield → (out err : Stream) → Type 0
IsUnwritten y out err =
    ((s : Status) × IsStatusOf y.end s × out.front y.lines × out.fault × Says err (message status.WriteFault))
    ⊎ ((s : Status) × IsStatusOf y.end s × IsReported s × out.whole y.lines × err.front (message s) × err.fault)

-- how a run ends, as a status
abbrev pub Ends : ℕ → Yield → (out err : Stream) → Status → Type 0
Ends budget y out err status.Done = (y.end ≡ end.Done) × out.whole y.lines × err.whole []
Ends budget y out err (status.Trap trap) = (y.end ≡ end.Trap trap) × out.whole y.lines × err.whole (message (status.Trap trap))
Ends budget y out err status.Stuck = (y.end ≡ end.Waits) × out.whole y.lines × err.whole (message status.Stuck)
Ends budget y out err status.Spent = (y.end ≡ end.Spent) × (y.turns ≡ budget + 1) × Says err (message status.Spent)
Ends budget y out err status.WriteFault = IsUnwritten y out err
Ends budget y out err _ = ⊥

-- the status of such a run
abbrev pub IsOfRun : Status → Type 0
IsOfRun status.Done = Unit {0}
IsOfRun (status.Trap trap) = Unit {0}
IsOfRun status.Stuck = Unit {0}
IsOfRun _ = ⊥

-- a run's message was written, or a write of it failed
abbrev pub IsSaid : Stream → Status → Status → Type 0
IsSaid err s answered =
    ((answered ≡ s) × err.whole (message s))
    ⊎ ((answered ≡ status.WriteFault) × IsReported s × err.front (message s) × err.fault)

-- The numbers that a run is given: those of the input where the source asks for it, and else none.
abbrev pub IsGiven : List ℕ → Input → List ℤ → Type 0
IsGiven source input numbers =
    ((asks_for_input source ≡ false) × input.untouched × (numbers ≡ []))
    ⊎ ((asks_for_input source ≡ true) × Finds input (Ok numbers))

-- the source has a run that ended so, in so many turns
pub record Finishes (budget : ℕ) (source : List ℕ) (input : Input) (out err : Stream) (s : Status) (turns : ℕ) : Type 0 where
  pub numbers : List ℤ
  pub given : IsGiven source input numbers
  pub done : Yield
  pub runs : Runs budget source numbers done
  pub takes : turns ≡ done.turns
  pub ends : Ends budget done out err s

-- ---- answers

-- nothing ran, and so is said
abbrev pub Stops : Stream → Status → ℕ → Type 0
Stops err s turns = (turns ≡ 0) × Says err (message s)

-- so it is answered, or that memory lacks
abbrev pub Refuses : Stream → Status → Status → ℕ → Type 0
Refuses err s answered turns = ((answered ≡ s) × Stops err s turns) ⊎ ((answered ≡ status.NoMemory) × Stops err status.NoMemory turns)

abbrev pub Ended : ℕ → Yield → (out err : Stream) → Status → ℕ → Type 0
Ended budget y out err answered turns = ((turns ≡ y.turns) × Ends budget y out err answered) ⊎ ((answered ≡ status.NoMemory) × Stops err status.NoMemory turns)

-- the input is as before, or the source asks for it
abbrev pub MayRead : List ℕ → Input → Type 0
MayRead source input = input.untouched ⊎ NeedsInput source

-- the source is above its limit, or the input that it asks for is
abbrev pub IsTooLong : List ℕ → Input → Type 0
IsTooLong source input =
    ((most_source_bytes < length source) × input.untouched) ⊎ (NeedsInput source × Finds input (Err fault.TooLong))

-- How a command ends that has read these bytes of a file: each status with its cause.
abbrev pub Answers : ℕ → List ℕ → Input → (out err : Stream) → Status → ℕ → Type 0
Answers budget source input out err status.TooLong turns = IsTooLong source input × Stops err status.TooLong turns
Answers budget source input out err (status.Refused refusal) turns =
    (length source ≤ most_source_bytes) × IsRefused source refusal × input.untouched × Stops err (status.Refused refusal) turns
Answers budget source input out err (status.Unbuilt at) turns = IsUnbuilt source at × input.untouched × Stops err (status.Unbuilt at) turns
Answers budget source input out err (status.BadInput at) turns = NeedsInput source × Finds input (Err (fault.BadInput at)) × Stops err (status.BadInput at) turns
Answers budget source input out err status.ReadFault turns = NeedsInput source × input.fault × Stops err status.ReadFault turns
Answers budget source input out err status.NoMemory turns = MayRead source input × Stops err status.NoMemory turns
Answers budget source input out err status.Usage turns = ⊥
Answers budget source input out err status.Stuck turns = ⊥
Answers budget source input out err status.Done turns = Finishes budget source input out err status.Done turns
Answers budget source input out err (status.Trap trap) turns = Finishes budget source input out err (status.Trap trap) turns
Answers budget source input out err status.Spent turns = Finishes budget source input out err status.Spent turns
Answers budget source input out err status.WriteFault turns = Finishes budget source input out err status.WriteFault turns

-- A shelf in a command: its files, where they are told, whether it was sure of each that is there, and that reading one
-- failed.
pub record Shelf : Type 1 where
  pub files : Option Files
  pub sure : Bool
  pub fault : Type 0

-- a shelf, by what it has, and by its count of faults, before and after
abbrev pub shelf_of : Option Files → Bool → ℕ → ℕ → Shelf
shelf_of files sure old new = record { files = files; sure = sure; fault = Rose old new }

-- one that has these files, of which nothing else is said
abbrev pub told_shelf : Files → Shelf
told_shelf files = record { files = Some files; sure = false; fault = Unit {0} }

-- the files are told, and the file is among them
abbrev pub IsThere : Option Files → List ℕ → Type 0
IsThere (Some fs) name = IsSome (file_named fs name)
IsThere None name = ⊥

-- reading the file failed, and the shelf wasn't sure of it
abbrev pub FailsToRead : Shelf → List ℕ → Type 0
FailsToRead shelf name = shelf.fault × (IsTrue shelf.sure → IsThere shelf.files name → ⊥)

-- it ends by the bytes that were read of the file
abbrev pub AnswersFile : ℕ → Shelf → List ℕ → Input → (out err : Stream) → Status → ℕ → Type 0
AnswersFile budget shelf name input out err s turns = (source : List ℕ) × IsRead shelf.files name source × Answers budget source input out err s turns

-- How a command ends that names a file: without memory or the file, or by the bytes that were read.
abbrev pub Answered : ℕ → Shelf → List ℕ → Input → (out err : Stream) → Status → ℕ → Type 0
Answered budget shelf name input out err status.NoMemory turns =
    (input.untouched × Stops err status.NoMemory turns) ⊎ AnswersFile budget shelf name input out err status.NoMemory turns
Answered budget shelf name input out err status.ReadFault turns =
    (FailsToRead shelf name × input.untouched × Stops err status.ReadFault turns) ⊎ AnswersFile budget shelf name input out err status.ReadFault turns
Answered budget shelf name input out err s turns = AnswersFile budget shelf name input out err s turns

-- a status with which nothing was written to the output
abbrev pub LeavesOutput : Status → Type 0
LeavesOutput status.Done = ⊥
LeavesOutput (status.Trap trap) = ⊥
LeavesOutput status.Stuck = ⊥
LeavesOutput status.WriteFault = ⊥
LeavesOutput _ = Unit {0}

-- ---- exact causes

-- a status that comes exactly where its cause holds, but for want of memory and faults of reading and writing
abbrev pub IsExact : Status → Type 0
IsExact status.Usage = ⊥
IsExact status.ReadFault = ⊥
IsExact status.WriteFault = ⊥
IsExact status.NoMemory = ⊥
IsExact _ = Unit {0}

-- a command that names this file, which is told, would rightly end so with this input, as far as its turns and its status
-- go
abbrev pub IsCause : ℕ → Files → List ℕ → List ℕ → Status → ℕ → Type 0
IsCause budget files name left s turns = Answered budget (told_shelf files) name (told_input left) any_stream any_stream s turns
