use Rattle.std.proofs.Common.{◌≡◌, length, MatchOption}
use Rattle.std.specs.List.{Contains}
use Rattle.mpl_depend.specs.Internal.Ranks.{IsClosed, value_at}
use Rattle.mpl_depend.specs.Internal.Reached.{IsOpen, Reaching, unreached}
use Rattle.mpl_depend.proofs.ranking.complete.Given as goal

abbrev pub invariant-loop-next : goal.invariant-loop-next
invariant-loop-next l = record {
  sized : length l.ranks ≡ length l.fn.ranks;
  reaching : Reaching l.edges (length l.found.items) l.ranks;
  is_open : MatchOption l.next (IsClosed (value_at l.ranks) l.edges) (λ edge. Contains l.edges edge × IsOpen l.ranks edge);
}

abbrev pub decreases-loop-next : goal.decreases-loop-next
decreases-loop-next l = unreached l.ranks
