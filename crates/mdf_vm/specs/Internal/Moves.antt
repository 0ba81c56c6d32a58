-- What came of an instruction.
use Rattle.std.specs.Prelude.{ℕ, ◌≡◌}
use Rattle.mpl_value.specs.declared.body.Arg.{Arg}
use Rattle.mdf_code.specs.declared.instr.Instr.{Instr}
use Rattle.mdf_code.specs.Alone.{Held, Pending, framed}
use Rattle.mdf_code.specs.Frames.{Around, Frame, Next, Goes, Spends, Stops, Stop, Calls, Creates, Ends, Needs, Replies, Strays, Traps}
use Rattle.mdf_code.specs.Steps.{does, or_strays}
use Rattle.mdf_vm.specs.Runnings.{frame_of}
use Rattle.mdf_vm.specs.declared.running.Running.{Running}
use Rattle.mdf_vm.specs.declared.moves.Move.{Move}
use Rattle.mdf_vm.specs.declared.moves.Move.TheVariants as move
use Rattle.mdf_vm.specs.declared.moves.Halted.{Halted}
use Rattle.mdf_vm.specs.declared.moves.Halted.TheVariants as halted

abbrev pub stop_of : Halted → Stop Held
stop_of (halted.Call calling) = Calls calling.member.0 calling.object calling.args
stop_of (halted.Need result) = Needs (Pending result)
stop_of (halted.Reply value) = Replies value
stop_of (halted.Create class) = Creates class
stop_of (halted.End line) = Ends line
stop_of halted.Stray = Strays
stop_of (halted.Trap trap) = Traps trap

abbrev pub next_of : Move → Frame Held → Next Held
next_of move.Goes f = Goes f
next_of move.Spends f = Spends f
next_of (move.Stops halted) f = Stops (stop_of halted) f

-- an instruction did this
abbrev pub Did : (ℕ → Arg) → Around → Instr → Running → Move → Running → Type 0
Did knows x instruction before move after =
    or_strays (frame_of before) (does (framed knows) x instruction (frame_of before)) ≡ next_of move (frame_of after)
