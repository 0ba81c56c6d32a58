use Rattle.std.proofs.Common.{drop}
use Rattle.mpl_depend.proofs.Savings.{Putting}
use Rattle.mpl_depend.proofs.saved.put_back.Given as goal

abbrev pub invariant-loop-one : goal.invariant-loop-one
invariant-loop-one l = Putting l.saved (drop l.one-index l.saved) l.fn.current l.current
