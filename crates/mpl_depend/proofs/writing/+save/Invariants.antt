use Rattle.std.proofs.Common.{length, map, drop, ◌+◌, ◌*◌}
use Rattle.mpl_depend.specs.Internal.SeenWays.{all_seen, ways_seen}
use Rattle.mpl_depend.specs.Internal.Walking.{Within, size}
use Rattle.mpl_depend.proofs.Savings.{SavesSo}
use Rattle.mpl_depend.proofs.writing.+save.Given as goal

abbrev pub invariant-save_all-loop-ways : goal.invariant-save_all-loop-ways
invariant-save_all-loop-ways l = record {
  within : Within (length l.current) (all_seen (map ways_seen (drop l.ways-index l.list)));
  so : SavesSo l.list l.ways-index l.mark l.fn.current l.current l.fn.saved.items l.saved.items;
}

abbrev pub decreases-save : goal.decreases-save
decreases-save l = 2 * size (ways_seen l.ways.now) + 1

abbrev pub decreases-save_both : goal.decreases-save_both
decreases-save_both l = 2 * (size (ways_seen l.first.now) + size (ways_seen l.second.now)) + 2

abbrev pub decreases-save_all : goal.decreases-save_all
decreases-save_all l = 2 * size (all_seen (map ways_seen l.list.now))
