use Rattle.std.proofs.Common.{◌≡◌, ◌++◌, drop}
use Rattle.mdf_match.specs.Ports.{row_of}
use Rattle.mdf_core.specs.Actors.{port_words}
use Rattle.mdf_machine.proofs.starting.words_of.Given as goal

abbrev pub invariant-loop-port : goal.invariant-loop-port
invariant-loop-port l = l.words ++ port_words (drop l.port (row_of l.ports l.actor)) ≡ port_words (row_of l.ports l.actor)
