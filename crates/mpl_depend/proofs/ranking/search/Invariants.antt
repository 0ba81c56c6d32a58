use Rattle.std.proofs.Common.{◌≡◌, length}
use Rattle.mpl_depend.specs.Internal.Reached.{Reaching}
use Rattle.mpl_depend.proofs.ranking.search.Given as goal

abbrev pub invariant-loop-place : goal.invariant-loop-place
invariant-loop-place l = record {
  sized : length l.ranks ≡ length l.fn.ranks;
  reaching : Reaching l.edges (length l.found.items) l.ranks;
}
