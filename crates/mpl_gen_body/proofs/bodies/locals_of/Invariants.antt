use Rattle.std.proofs.Common.{◌≡◌, ◌≤◌, drop, length}
use Rattle.mpl_gen_code.specs.Scopes.{formals_from}
use Rattle.mpl_gen_body.proofs.bodies.locals_of.Given as goal

abbrev pub invariant-loop-left : goal.invariant-loop-left
invariant-loop-left l = (l.locals ≡ formals_from l.left (drop l.left l.formals)) × (l.left ≤ length l.formals)

abbrev pub decreases-loop-left : goal.decreases-loop-left
decreases-loop-left l = l.left
