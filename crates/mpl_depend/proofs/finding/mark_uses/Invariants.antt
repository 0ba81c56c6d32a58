use Rattle.mpl_depend.proofs.Reachings.{MarksSo}
use Rattle.mpl_depend.proofs.finding.mark_uses.Given as goal

abbrev pub invariant-loop-one : goal.invariant-loop-one
invariant-loop-one l = MarksSo l.ranks l.uses l.one-index l.fn.marks.items l.marks.items
