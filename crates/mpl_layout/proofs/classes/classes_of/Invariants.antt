use Rattle.std.proofs.Common.{◌≡◌, ◌≤◌, ◌*◌, ◌++◌, drop, length, map}
use Rattle.mpl_mean.specs.Laws.Sizes.{Every}
use Rattle.mpl_mean.specs.Meaning.Layout.{classes_from, classes_of}
use Rattle.mpl_layout.specs.Bounds.{HasFewMembers}
use Rattle.mpl_layout.specs.ClassItems.{class_items}
use Rattle.mpl_layout.specs.SeenClasses.{class_seen, items_seen}
use Rattle.mpl_layout.proofs.classes.classes_of.Given as goal

abbrev pub invariant-loop-declaration : goal.invariant-loop-declaration
invariant-loop-declaration l = record {
  are : map class_seen l.classes.items ++ classes_from (length l.classes.items) l.first (drop l.declaration-index l.declarations) ≡ classes_of l.declarations;
  items : map items_seen l.classes.items ++ class_items (drop l.declaration-index l.declarations) ≡ class_items l.declarations;
  few : length l.classes.items ≤ l.declaration-index;
  numbers : l.first ≤ 64 * l.declaration-index;
  members : Every HasFewMembers (drop l.declaration-index l.declarations);
}
