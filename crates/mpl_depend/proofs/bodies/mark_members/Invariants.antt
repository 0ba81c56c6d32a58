use Rattle.mpl_depend.specs.Internal.Bodies.{item_row}
use Rattle.mpl_depend.specs.Internal.SeenClass.{items_seen}
use Rattle.mpl_depend.proofs.Marking.{Behind}
use Rattle.mpl_depend.proofs.bodies.mark_members.Given as goal

abbrev pub invariant-loop-item : goal.invariant-loop-item
invariant-loop-item l = Behind (item_row l.known (items_seen l.object)) l.items l.item-index l.initial.marks.items l.marks.items
