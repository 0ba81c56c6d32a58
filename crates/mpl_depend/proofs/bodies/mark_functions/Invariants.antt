use Rattle.mpl_depend.specs.Internal.Bodies.{function_row}
use Rattle.mpl_depend.proofs.Marking.{Behind}
use Rattle.mpl_depend.proofs.bodies.mark_functions.Given as goal

abbrev pub invariant-loop-declaration : goal.invariant-loop-declaration
invariant-loop-declaration l = Behind (function_row l.known) l.declarations l.declaration-index l.initial.marks.items l.marks.items
