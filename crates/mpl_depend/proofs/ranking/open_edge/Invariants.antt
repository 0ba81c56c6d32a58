use Rattle.std.proofs.Common.{drop}
use Rattle.mpl_depend.proofs.Reachings.{AreClosed}
use Rattle.mpl_depend.proofs.ranking.open_edge.Given as goal

abbrev pub invariant-loop-edge : goal.invariant-loop-edge
invariant-loop-edge l = AreClosed l.ranks (drop l.edge-index l.edges) → AreClosed l.ranks l.edges
