use Rattle.std.proofs.Common.{◌≡◌, drop}
use Rattle.mpl_gen_expr.specs.RowCodes.{all_values}
use Rattle.mpl_gen_expr.specs.Texts.{written}
use Rattle.mpl_gen_scope.specs.SeenScope.{env_seen}
use Rattle.mpl_gen_expr.proofs.expressions.+expression.Given as goal

abbrev pub invariant-arguments-loop-argument : goal.invariant-arguments-loop-argument
invariant-arguments-loop-argument l =
    written (all_values (env_seen l.scope) (drop l.argument-index l.list)) l.codes ≡ written (all_values (env_seen l.scope) l.list) l.initial.codes
