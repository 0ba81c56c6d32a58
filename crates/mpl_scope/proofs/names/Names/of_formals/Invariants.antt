use Rattle.std.proofs.Common.{◌≡◌, ◌++◌, drop}
use Rattle.mpl_mean.specs.TypeRules.Types.{declared_formals}
use Rattle.mpl_scope.proofs.names.Names.of_formals.Given as goal

-- those so far and those that are left are all
abbrev pub invariant-loop-formal : goal.invariant-loop-formal
invariant-loop-formal l = l.names ++ declared_formals (drop l.formal-index l.formals) ≡ declared_formals l.formals
