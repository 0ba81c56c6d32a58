use Rattle.mpl_depend.specs.Internal.Bodies.{class_row}
use Rattle.mpl_depend.proofs.Marking.{Behind}
use Rattle.mpl_depend.proofs.bodies.mark_classes.Given as goal

abbrev pub invariant-loop-declaration : goal.invariant-loop-declaration
invariant-loop-declaration l = Behind (class_row l.known) l.declarations l.declaration-index l.initial.marks.items l.marks.items
