-- How a run that ended answers.
use Rattle.std.proofs.Common.{◌≡◌, ℕ, ℤ, List, Err, inl, inr, sym, subst}
use Rattle.mpl_ast.specs.declared.program.Program.{Program}
use Rattle.mpl_value.specs.declared.body.BodyEnd.TheVariants as end
use Rattle.mpl_value.specs.declared.body.Yield.{Yield}
use Rattle.mentat_input.specs.declared.fault.InputFault.{InputFault}
use Rattle.mentat_input.specs.declared.fault.InputFault.TheVariants as fault
use Rattle.mentat_cmd.specs.declared.status.Status.{Status}
use Rattle.mentat_cmd.specs.declared.status.Status.TheVariants as status
use Rattle.mentat_cmd.specs.Answer.{Answered, Answers, Ended, Ends, IsGiven, IsOfRun, IsRead, IsSaid, IsStatusOf, LeavesOutput, MayRead, Refuses, Says, Shelf, Stops, Stream}
use Rattle.mentat_cmd.specs.Input.{Input}
use Rattle.mentat_cmd.specs.Internal.Ran.{HasRun, Reading, fault_status}
use Rattle.mentat_cmd.specs.Message.{message}
use Rattle.mentat_cmd.specs.Program.{IsBuilt, NeedsInput}

finishes : (budget : ℕ) (source : List ℕ) (input : Input) (y : Yield) (out err : Stream) (s : Status) (turns : ℕ)
    → HasRun budget source input y → (y.end ≡ end.Waits → ⊥) → turns ≡ y.turns → Ends budget y out err s → Answers budget source input out err s turns
finishes budget source input y out err status.Done turns h never takes ends = record { numbers = h.numbers; given = h.given; done = y; runs = h.runs; takes = takes; ends = ends }
finishes budget source input y out err (status.Trap trap) turns h never takes ends = record { numbers = h.numbers; given = h.given; done = y; runs = h.runs; takes = takes; ends = ends }
finishes budget source input y out err status.Stuck turns h never takes ends = never ends.0
finishes budget source input y out err status.Spent turns h never takes ends = record { numbers = h.numbers; given = h.given; done = y; runs = h.runs; takes = takes; ends = ends }
finishes budget source input y out err status.WriteFault turns h never takes ends = record { numbers = h.numbers; given = h.given; done = y; runs = h.runs; takes = takes; ends = ends }
finishes budget source input y out err status.Usage turns h never takes ends = absurd ends
finishes budget source input y out err (status.Refused refusal) turns h never takes ends = absurd ends
finishes budget source input y out err status.ReadFault turns h never takes ends = absurd ends
finishes budget source input y out err (status.BadInput at) turns h never takes ends = absurd ends
finishes budget source input y out err status.NoMemory turns h never takes ends = absurd ends
finishes budget source input y out err status.TooLong turns h never takes ends = absurd ends
finishes budget source input y out err (status.Unbuilt at) turns h never takes ends = absurd ends

-- the input of a run is as before, or its source asks for it
pub may_read : (source : List ℕ) (input : Input) (numbers : List ℤ) (p : Program) → IsBuilt source p → IsGiven source input numbers → MayRead source input
may_read source input numbers p built (inl g) = inl g.1
may_read source input numbers p built (inr g) = inr (record { program = p; source_is = built; asks = g.0 })

-- a run that ended answers so, or memory lacked for its message
pub answers : (budget : ℕ) (source : List ℕ) (input : Input) (y : Yield) (out err : Stream) (s : Status) (turns : ℕ)
    → HasRun budget source input y → (y.end ≡ end.Waits → ⊥) → Ended budget y out err s turns → Answers budget source input out err s turns
answers budget source input y out err s turns h never (inl e) = finishes budget source input y out err s turns h never e.0 e.1
answers budget source input y out err s turns h never (inr e) = subst (λ t. Answers budget source input out err t turns) (sym e.0) (may_read source input h.numbers h.runs.program h.runs.source_is h.given, e.1)

-- nothing ran where memory lacked
pub refused_so : (budget : ℕ) (source : List ℕ) (input : Input) (out err : Stream) (s answered : Status) (turns : ℕ)
    → MayRead source input → (Stops err s turns → Answers budget source input out err s turns) → Refuses err s answered turns → Answers budget source input out err answered turns
refused_so budget source input out err s answered turns may so (inl e) = subst (λ t. Answers budget source input out err t turns) (sym e.0) (so e.1)
refused_so budget source input out err s answered turns may so (inr e) = subst (λ t. Answers budget source input out err t turns) (sym e.0) (may, e.1)

-- an input that gives no numbers answers so
pub faulty_input : (budget : ℕ) (source : List ℕ) (input : Input) (out err : Stream) (e : InputFault) (turns : ℕ)
    → NeedsInput source × Reading input (Err e) → Stops err (fault_status e) turns → Answers budget source input out err (fault_status e) turns
faulty_input budget source input out err fault.ReadFault turns h stops = (h.0, h.1, stops)
faulty_input budget source input out err fault.TooLong turns h stops = (inr (h.0, h.1), stops)
faulty_input budget source input out err (fault.BadInput at) turns h stops = (h.0, h.1, stops)
faulty_input budget source input out err fault.NoMemory turns h stops = (inr h.0, stops)

-- a file that was read
pub by_file : (budget : ℕ) (shelf : Shelf) (name source : List ℕ) (input : Input) (out err : Stream) (s : Status) (turns : ℕ)
    → IsRead shelf.files name source → Answers budget source input out err s turns → Answered budget shelf name input out err s turns
by_file budget shelf name source input out err status.Done turns read a = (source, read, a)
by_file budget shelf name source input out err (status.Trap trap) turns read a = (source, read, a)
by_file budget shelf name source input out err status.Stuck turns read a = (source, read, a)
by_file budget shelf name source input out err status.Spent turns read a = (source, read, a)
by_file budget shelf name source input out err status.WriteFault turns read a = (source, read, a)
by_file budget shelf name source input out err status.Usage turns read a = (source, read, a)
by_file budget shelf name source input out err (status.Refused refusal) turns read a = (source, read, a)
by_file budget shelf name source input out err status.ReadFault turns read a = inr (source, read, a)
by_file budget shelf name source input out err (status.BadInput at) turns read a = (source, read, a)
by_file budget shelf name source input out err status.NoMemory turns read a = inr (source, read, a)
by_file budget shelf name source input out err status.TooLong turns read a = (source, read, a)
by_file budget shelf name source input out err (status.Unbuilt at) turns read a = (source, read, a)

-- ---- runs whose lines were all written

ends_as : (budget : ℕ) (y : Yield) (out err : Stream) (s : Status) → IsStatusOf y.end s → out.whole y.lines → err.whole (message s) → Ends budget y out err s
ends_as budget y out err status.Done of_ lines text = (of_, lines, text)
ends_as budget y out err (status.Trap trap) of_ lines text = (of_, lines, text)
ends_as budget y out err status.Stuck of_ lines text = (of_, lines, text)
ends_as budget y out err status.Usage of_ lines text = absurd of_
ends_as budget y out err (status.Refused refusal) of_ lines text = absurd of_
ends_as budget y out err status.Spent of_ lines text = absurd of_
ends_as budget y out err status.ReadFault of_ lines text = absurd of_
ends_as budget y out err status.WriteFault of_ lines text = absurd of_
ends_as budget y out err (status.BadInput at) of_ lines text = absurd of_
ends_as budget y out err status.NoMemory of_ lines text = absurd of_
ends_as budget y out err status.TooLong of_ lines text = absurd of_
ends_as budget y out err (status.Unbuilt at) of_ lines text = absurd of_

pub ends_so : (budget : ℕ) (y : Yield) (out err : Stream) (s answered : Status) → IsStatusOf y.end s → out.whole y.lines → IsSaid err s answered → Ends budget y out err answered
ends_so budget y out err s answered of_ lines (inl said) = subst (Ends budget y out err) (sym said.0) (ends_as budget y out err s of_ lines said.1)
ends_so budget y out err s answered of_ lines (inr said) = subst (Ends budget y out err) (sym said.0) (inr (s, of_, said.1, lines, said.2, said.3))

-- a front of the lines was written, and then so was said
pub unwritten : (budget : ℕ) (y : Yield) (out err : Stream) (s : Status) (lines : List ℕ)
    → IsStatusOf y.end s → y.lines ≡ lines → out.front lines → out.fault → Says err (message status.WriteFault) → Ends budget y out err status.WriteFault
unwritten budget y out err s lines of_ same front fault said = inl (s, of_, subst out.front (sym same) front, fault, said)

-- ---- what was written

run_wrote : (s : Status) → IsOfRun s → LeavesOutput s → ⊥
run_wrote status.Done run leaves = leaves
run_wrote (status.Trap trap) run leaves = leaves
run_wrote status.Stuck run leaves = leaves
run_wrote status.Usage run leaves = run
run_wrote (status.Refused refusal) run leaves = run
run_wrote status.Spent run leaves = run
run_wrote status.ReadFault run leaves = run
run_wrote status.WriteFault run leaves = run
run_wrote (status.BadInput at) run leaves = run
run_wrote status.NoMemory run leaves = run
run_wrote status.TooLong run leaves = run
run_wrote (status.Unbuilt at) run leaves = run

-- with such a status something may have been written
pub said_wrote : (err : Stream) (s answered : Status) → IsOfRun s → IsSaid err s answered → LeavesOutput answered → ⊥
said_wrote err s answered run (inl said) leaves = run_wrote s run (subst LeavesOutput said.0 leaves)
said_wrote err s answered run (inr said) leaves = subst LeavesOutput said.0 leaves
