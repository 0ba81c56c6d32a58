use Rattle.std.proofs.Common.{sym, ◌∙◌, arith}
use Rattle.mpl_mean.proofs.Lists.{none_left}
use Rattle.mpl_depend.specs.Internal.SeenScope.{env_seen}
use Rattle.mpl_depend.proofs.Rows.{flow_row, flows_row, row_ends}
use Rattle.mpl_depend.proofs.flows.+flow.Goals as goal

pub flows-returns : goal.flows-returns
flows-returns t c =
    c.all.ensures
    ∙ row_ends (flow_row (env_seen c.args.scope.now)) c.args.list.now c.loop-node.ways.items c.loop-node.node-index (none_left c.args.list.now c.loop-node.node-index (omega arith)) c.loop-node.invariant
    ∙ sym (flows_row (env_seen c.args.scope.now) c.args.list.now)
