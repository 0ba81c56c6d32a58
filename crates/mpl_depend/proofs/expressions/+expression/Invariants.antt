use Rattle.std.proofs.Common.{◌≡◌, ◌++◌, map, drop}
use Rattle.mpl_depend.specs.Internal.SeenScope.{env_seen}
use Rattle.mpl_depend.specs.Internal.SeenWays.{ways_seen}
use Rattle.mpl_depend.proofs.Rows.{value_row}
use Rattle.mpl_depend.proofs.expressions.+expression.Given as goal

abbrev pub invariant-values-loop-node : goal.invariant-values-loop-node
invariant-values-loop-node l = map ways_seen l.ways.items ++ map (value_row (env_seen l.scope)) (drop l.node-index l.list) ≡ map (value_row (env_seen l.scope)) l.list
