use Rattle.std.proofs.Common.{◌≡◌, ◌++◌, take}
use Rattle.mdf_match.specs.Ports.{known_words}
use Rattle.mdf_machine.proofs.starting.add_all.Given as goal

abbrev pub invariant-loop-at : goal.invariant-loop-at
invariant-loop-at l = l.words ≡ l.fn.words ++ take l.at (known_words l.ports l.tag)
