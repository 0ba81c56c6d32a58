use Rattle.std.proofs.Common.{arith}
use Rattle.mpl_mean.proofs.Lists.{none_left}
use Rattle.mpl_depend.proofs.Savings.{putting_ends}
use Rattle.mpl_depend.proofs.saved.put_back.Goals as goal

pub returns-clause-restored : goal.returns-clause-restored
returns-clause-restored c =
    putting_ends c.args.saved.now _ c.args.current.now c.loop-one.current (none_left c.args.saved.now c.loop-one.one-index (omega arith)) c.loop-one.invariant
