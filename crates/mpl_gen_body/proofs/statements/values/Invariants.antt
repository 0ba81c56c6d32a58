use Rattle.std.proofs.Common.{◌≡◌, drop, map}
use Rattle.mpl_mean.specs.Plain.Expr.{expr_of}
use Rattle.mpl_gen_code.specs.ExpressionCode.{value_code}
use Rattle.mpl_gen_code.specs.Pieces.{all_joined}
use Rattle.mpl_gen_expr.specs.Texts.{written}
use Rattle.mpl_gen_scope.specs.SeenScope.{env_seen}
use Rattle.mpl_gen_body.proofs.statements.values.Given as goal

abbrev pub invariant-loop-argument : goal.invariant-loop-argument
invariant-loop-argument l =
    written (all_joined (map (value_code (env_seen l.scope)) (map expr_of (drop l.argument-index l.list)))) l.codes
    ≡ written (all_joined (map (value_code (env_seen l.scope)) (map expr_of l.list))) l.initial.codes
