use Rattle.std.proofs.Common.{sym, ◌∙◌, arith}
use Rattle.mpl_mean.proofs.Lists.{none_left}
use Rattle.mpl_depend.specs.Internal.SeenScope.{env_seen}
use Rattle.mpl_depend.proofs.Rows.{row_ends, value_row, values_row}
use Rattle.mpl_depend.proofs.expressions.+expression.Goals as goal

pub values-returns : goal.values-returns
values-returns t c =
    c.all.ensures
    ∙ row_ends (value_row (env_seen c.args.scope.now)) c.args.list.now c.loop-node.ways.items c.loop-node.node-index (none_left c.args.list.now c.loop-node.node-index (omega arith)) c.loop-node.invariant
    ∙ sym (values_row (env_seen c.args.scope.now) c.args.list.now)
