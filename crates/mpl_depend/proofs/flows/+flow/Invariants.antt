use Rattle.std.proofs.Common.{◌≡◌, ◌++◌, map, drop}
use Rattle.mpl_depend.specs.Internal.SeenScope.{env_seen}
use Rattle.mpl_depend.specs.Internal.SeenWays.{ways_seen}
use Rattle.mpl_depend.proofs.Rows.{flow_row}
use Rattle.mpl_depend.proofs.flows.+flow.Given as goal

abbrev pub invariant-flows-loop-node : goal.invariant-flows-loop-node
invariant-flows-loop-node l = map ways_seen l.ways.items ++ map (flow_row (env_seen l.scope)) (drop l.node-index l.list) ≡ map (flow_row (env_seen l.scope)) l.list
