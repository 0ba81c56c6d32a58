use Rattle.std.proofs.Common.{sym, subst, arith}
use Rattle.mpl_mean.proofs.Lists.{none_left}
use Rattle.mpl_depend.proofs.Reachings.{AreClosed, all_closed}
use Rattle.mpl_depend.proofs.ranking.open_edge.Goals as goal

pub returns : goal.returns
returns c =
    all_closed c.args.ranks.now c.args.edges.now (c.loop-edge.invariant (subst (λ left. AreClosed c.args.ranks.now left) (sym (none_left c.args.edges.now c.loop-edge.edge-index (omega arith))) tt))
