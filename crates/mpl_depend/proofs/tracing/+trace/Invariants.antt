use Rattle.std.proofs.Common.{map, drop, ◌+◌, ◌*◌}
use Rattle.mpl_depend.specs.Internal.Ranks.{Stands}
use Rattle.mpl_depend.specs.Internal.SeenWays.{all_seen, ways_seen}
use Rattle.mpl_depend.specs.Internal.Walking.{size}
use Rattle.mpl_depend.proofs.TracedWays.{TracedSo}
use Rattle.mpl_depend.proofs.tracing.+trace.Given as goal

abbrev pub invariant-trace_all-loop-ways : goal.invariant-trace_all-loop-ways
invariant-trace_all-loop-ways l = record {
  stands : Stands (all_seen (map ways_seen (drop l.ways-index l.list))) l.values.count l.values.edges.items l.current;
  so : TracedSo l.list l.ways-index l.fn.values.count l.values.count l.fn.values.edges.items l.values.edges.items l.fn.values.uses.items l.values.uses.items l.fn.current l.current;
}

abbrev pub decreases-trace : goal.decreases-trace
decreases-trace l = 8 * size (ways_seen l.ways.now) + 3

abbrev pub decreases-trace_then : goal.decreases-trace_then
decreases-trace_then l = 8 * (size (ways_seen l.first.now) + size (ways_seen l.second.now)) + 4

abbrev pub decreases-trace_all : goal.decreases-trace_all
decreases-trace_all l = 8 * size (all_seen (map ways_seen l.list.now)) + 2

abbrev pub decreases-trace_either : goal.decreases-trace_either
decreases-trace_either l = 8 * (size (ways_seen l.one.now) + size (ways_seen l.other.now)) + 6

abbrev pub decreases-trace_both : goal.decreases-trace_both
decreases-trace_both l = 8 * (size (ways_seen l.one.now) + size (ways_seen l.other.now)) + 5

abbrev pub decreases-trace_loop : goal.decreases-trace_loop
decreases-trace_loop l = 8 * (size (ways_seen l.test.now) + size (ways_seen l.body.now)) + 7

abbrev pub decreases-trace_round : goal.decreases-trace_round
decreases-trace_round l = 8 * (size (ways_seen l.test.now) + size (ways_seen l.body.now)) + 5

abbrev pub decreases-trace_body : goal.decreases-trace_body
decreases-trace_body l = 8 * size (ways_seen l.body.now) + 4
