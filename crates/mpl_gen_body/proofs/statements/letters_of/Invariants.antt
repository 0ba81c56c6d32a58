use Rattle.std.proofs.Common.{◌≡◌, ◌++◌, drop, map}
use Rattle.mpl_mean.specs.Plain.Expr.{expr_of}
use Rattle.mpl_gen_code.specs.StatementCode.{letters_of}
use Rattle.mpl_gen_scope.specs.SeenScope.{env_seen}
use Rattle.mpl_gen_body.proofs.statements.letters_of.Given as goal

abbrev pub invariant-loop-argument : goal.invariant-loop-argument
invariant-loop-argument l =
    l.letters ++ letters_of (env_seen l.scope) (map expr_of (drop l.argument-index l.list)) ≡ letters_of (env_seen l.scope) (map expr_of l.list)
