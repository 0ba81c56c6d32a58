use Rattle.std.proofs.Common.{◌≡◌, drop}
use Rattle.mpl_value.specs.CallAnswers.{leftmost_trap}
use Rattle.mdf_match.specs.Ports.{row_of}
use Rattle.mdf_core.specs.Actors.{arguments_of}
use Rattle.mdf_machine.proofs.matching.leftmost_trap.Given as goal

abbrev pub invariant-loop-port : goal.invariant-loop-port
invariant-loop-port l = leftmost_trap (arguments_of (drop l.port (row_of l.ports l.actor))) ≡ leftmost_trap (arguments_of (row_of l.ports l.actor))
