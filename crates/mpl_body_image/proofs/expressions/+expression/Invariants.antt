use Rattle.std.proofs.Common.{◌≡◌, ◌++◌, drop}
use Rattle.mpl_body_image.specs.Internal.RowCodes.{all_code}
use Rattle.mpl_body_image.specs.Internal.SeenScope.{env_seen}
use Rattle.mpl_body_image.proofs.expressions.+expression.Given as goal

abbrev pub invariant-arguments-loop-argument : goal.invariant-arguments-loop-argument
invariant-arguments-loop-argument l =
    l.code ++ all_code (env_seen l.scope) (drop l.argument-index l.list) ≡ l.initial.code ++ all_code (env_seen l.scope) l.list
