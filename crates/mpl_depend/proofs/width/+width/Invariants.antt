use Rattle.std.proofs.Common.{ℕ, ◌≤◌, map, drop}
use Rattle.mpl_depend.specs.Internal.SeenWays.{all_seen, ways_seen}
use Rattle.mpl_depend.specs.Internal.Walking.{Spans}
use Rattle.mpl_depend.proofs.width.+width.Given as goal

abbrev pub invariant-width_of_all-loop-ways : goal.invariant-width_of_all-loop-ways
invariant-width_of_all-loop-ways l =
    (more : ℕ) → l.count ≤ more → Spans more (all_seen (map ways_seen (drop l.ways-index l.list))) → Spans more (all_seen (map ways_seen l.list))
