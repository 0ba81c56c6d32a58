use Rattle.std.proofs.Common.{◌≡◌}
use Rattle.mpl_mean.specs.Plain.Expr.{expr_of_flow}
use Rattle.mpl_mean.specs.TypeRules.Typing.{formal_types}
use Rattle.mpl_scope.specs.SeenScope.{seen_scope}
use Rattle.mpl_types.proofs.ArgumentLemmas.{at_place, none_untyped}
use Rattle.mpl_types.proofs.calls.+call.Given as goal

-- what is known so far, with what is left, is what is known of all
abbrev pub invariant-check_flows-loop-i : goal.invariant-check_flows-loop-i
invariant-check_flows-loop-i l =
    at_place expr_of_flow (seen_scope l.scope) l.arguments (formal_types l.scope.outline.now l.formals) l.so_far l.i
    ≡ at_place expr_of_flow (seen_scope l.scope) l.arguments (formal_types l.scope.outline.now l.formals) none_untyped 0
