use Rattle.std.proofs.Common.{◌≡◌, length}
use Rattle.mpl_depend.specs.Internal.Reached.{Reaching}
use Rattle.mpl_depend.proofs.ranking.follow_from.Given as goal

abbrev pub invariant-loop-left : goal.invariant-loop-left
invariant-loop-left l = record {
  sized : length l.ranks ≡ length l.fn.ranks;
  reaching : Reaching l.edges (length l.found.items) l.ranks;
}

abbrev pub decreases-loop-left : goal.decreases-loop-left
decreases-loop-left l = l.left
