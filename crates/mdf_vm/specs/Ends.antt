-- What is left of a frame at its end.
use Rattle.std.specs.Prelude.{ℕ, Option, Some, None}
use Rattle.mpl_value.specs.declared.known.Trap.{Trap}
use Rattle.mdf_vm.specs.declared.frame.Frame as frames
use Rattle.mdf_vm.specs.declared.frame.Ended.{Ended}
use Rattle.mdf_vm.specs.declared.last.Last.{Last}
use Rattle.mdf_vm.specs.declared.last.Last.TheVariants as last

abbrev pub trap_at : Last → Option Trap
trap_at (last.Trapped trap) = Some trap
trap_at other = None

abbrev pub line_at : Last → ℕ
line_at (last.Ended line) = line
line_at other = 0

abbrev pub ended_of : frames.Frame → Ended
ended_of f = record { trap = trap_at f.last; line = line_at f.last; state = f.running.state; lines = f.running.lines }
