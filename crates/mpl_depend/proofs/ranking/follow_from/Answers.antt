use Rattle.std.proofs.Common.{arith, ◌∙◌}
use Rattle.mpl_depend.proofs.Reachings.{reaches_on}
use Rattle.mpl_depend.proofs.ranking.follow_from.Goals as goal

pub loop-left-preserved : goal.loop-left-preserved
loop-left-preserved c =
    let f = c.in_ok-follow.ensures in
    record {
      sized = f.sized ∙ c.loop-left.invariant.sized;
      reaching = reaches_on c.args.edges.now _ _ c.loop-left.ranks c.follow.new.ranks _ (omega arith) c.loop-left.invariant.reaching f;
    }
