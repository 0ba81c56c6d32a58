-- A frame up to its next turn or stop.
use Rattle.std.specs.Prelude.{ℕ, suc, ◌+◌, ◌≡◌, ◌≢◌, ◌<◌, ◌≤◌, Option, Some, None}
use Rattle.mpl_value.specs.declared.body.Arg.{Arg}
use Rattle.mdf_code.specs.Alone.{Held}
use Rattle.mdf_code.specs.Frames.{Around, Frame}
use Rattle.mdf_code.specs.Told.{Halt, Beats, Stands, after, run}
use Rattle.mdf_vm.specs.Internal.Moves.{next_of, stop_of}
use Rattle.mdf_vm.specs.Runs.{RunsTo, Went}
use Rattle.mdf_vm.specs.declared.moves.Halted.{Halted}
use Rattle.mdf_vm.specs.declared.moves.Move.{Move}
use Rattle.mdf_vm.specs.declared.moves.Move.TheVariants as moves

-- no turn was spent on the way
pub record GoesOn (knows : ℕ → Arg) (x : Around) (before later : Frame Held) : Type 0 where
  pub steps : ℕ
  pub same : (more quantum turns : ℕ) → run (more + steps) knows x quantum turns before ≡ run more knows x quantum turns later

-- the next turn or stop
pub record ComesTo (knows : ℕ → Arg) (x : Around) (before : Frame Held) (move : Move) (later : Frame Held) : Type 0 where
  pub steps : ℕ
  pub comes : (more quantum turns : ℕ) → run (suc more + steps) knows x quantum turns before ≡ after (run more knows x quantum) quantum turns (next_of move later)
  pub turns : move ≢ moves.Goes

abbrev pub halt_of : Option Halted → Halt
halt_of None = Beats
halt_of (Some halted) = Stands (stop_of halted)

-- a frame with turns left, or without
pub record InRun (knows : ℕ → Arg) (x : Around) (quantum : ℕ) (before : Frame Held) (spent : ℕ) (now : Frame Held) : Type 0 where
  pub within : spent ≤ quantum
  pub going : spent < quantum → Went knows x quantum 0 before spent now
  pub beat : spent ≡ quantum → RunsTo knows x quantum before Beats spent now
