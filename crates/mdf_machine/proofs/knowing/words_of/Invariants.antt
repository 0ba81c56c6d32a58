use Rattle.std.proofs.Common.{◌≡◌, ◌≤◌, take}
use Rattle.mdf_future.specs.Results.{known_words}
use Rattle.mdf_machine.proofs.knowing.words_of.Given as goal

abbrev pub invariant-loop-at : goal.invariant-loop-at
invariant-loop-at l = l.words ≡ take l.at (known_words l.results l.actor)
