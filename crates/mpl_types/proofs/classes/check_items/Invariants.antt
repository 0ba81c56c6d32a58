use Rattle.std.proofs.Common.{◌≡◌, ◌≤◌, drop}
use Rattle.mpl_types.specs.Internal.Least.{earlier}
use Rattle.mpl_types.specs.Internal.Outlines.{items_least, nothing_before}
use Rattle.mpl_types.specs.Internal.Seen.{failure_of}
use Rattle.mpl_types.specs.Internal.SeenBefore.{seen_before}
use Rattle.mpl_types.proofs.classes.check_items.Given as goal

-- what failed so far, with what fails among those that are left
abbrev pub invariant-loop-item : goal.invariant-loop-item
invariant-loop-item l = record {
  least : earlier (failure_of l.found) (items_least l.outline l.class (seen_before l.before) (drop l.item-index l.items)) ≡ items_least l.outline l.class nothing_before l.items;
  members : l.before.members ≤ l.item-index;
  selects : l.before.selects ≤ l.item-index;
}
