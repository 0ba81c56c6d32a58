use Rattle.std.proofs.Common.{◌≡◌, drop, map}
use Rattle.mpl_mean.specs.Plain.Expr.{expr_of}
use Rattle.mpl_scope.specs.SeenScope.{seen_scope}
use Rattle.mpl_types.specs.Internal.Statements.{print_least}
use Rattle.mpl_types.specs.Internal.Least.{earlier}
use Rattle.mpl_types.specs.Internal.Seen.{failure_of}
use Rattle.mpl_types.proofs.statements.check_printed.Given as goal

-- what failed so far, with what fails among those that are left
abbrev pub invariant-loop-argument : goal.invariant-loop-argument
invariant-loop-argument l =
    earlier (failure_of l.found) (print_least (map expr_of (drop l.argument-index l.arguments)) (seen_scope l.scope))
    ≡ print_least (map expr_of l.arguments) (seen_scope l.scope)
