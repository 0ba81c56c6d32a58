use Rattle.std.proofs.Common.{◌-◌, length}
use Rattle.mentat_input.proofs.WordLemmas.{SoFar}
use Rattle.mentat_input.proofs.words.numbers_of.Given as goal

abbrev pub invariant-loop-at : goal.invariant-loop-at
invariant-loop-at l = SoFar l.bytes l.at l.numbers

abbrev pub decreases-loop-at : goal.decreases-loop-at
decreases-loop-at l = length l.initial.bytes - l.at
