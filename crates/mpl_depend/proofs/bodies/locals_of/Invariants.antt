use Rattle.std.proofs.Common.{◌≡◌, ◌≤◌, drop, length, map}
use Rattle.mpl_mean.specs.Plain.Scopes.{formal_shape}
use Rattle.mpl_depend.proofs.bodies.locals_of.Given as goal

abbrev pub invariant-loop-left : goal.invariant-loop-left
invariant-loop-left l = (l.locals ≡ map formal_shape (drop l.left l.formals)) × (l.left ≤ length l.formals)

abbrev pub decreases-loop-left : goal.decreases-loop-left
decreases-loop-left l = l.left
