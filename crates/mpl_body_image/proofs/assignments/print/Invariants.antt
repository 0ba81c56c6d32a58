use Rattle.std.proofs.Common.{◌≡◌, ◌++◌, drop, map}
use Rattle.mpl_mean.specs.Plain.Expr.{expr_of}
use Rattle.mpl_body_code.specs.Codes.{expression_codes}
use Rattle.mpl_body_image.specs.Internal.SeenScope.{env_seen}
use Rattle.mpl_body_image.proofs.assignments.print.Given as goal

abbrev pub invariant-loop-argument : goal.invariant-loop-argument
invariant-loop-argument l =
    l.code ++ expression_codes (env_seen l.scope) (map expr_of (drop l.argument-index l.list))
    ≡ l.initial.code ++ expression_codes (env_seen l.scope) (map expr_of l.list)
