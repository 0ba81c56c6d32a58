use Rattle.std.proofs.Common.{◌≡◌, drop, map}
use Rattle.mpl_mean.specs.TypeRules.StatementNodes.{locals_walk}
use Rattle.mpl_mean.specs.Plain.Stmt.{new_local}
use Rattle.mpl_scope.specs.SeenScope.{seen_scope}
use Rattle.mpl_types.specs.Internal.Least.{earlier}
use Rattle.mpl_types.specs.Internal.Seen.{failure_of}
use Rattle.mpl_types.specs.Internal.Statements.{locals_least}
use Rattle.mpl_types.proofs.locals.check_declarators.Given as goal

-- what failed so far, with what fails among those that are left, and what surrounds those behind them
abbrev pub invariant-loop-declarator : goal.invariant-loop-declarator
invariant-loop-declarator l = record {
  least : earlier (failure_of l.found) (locals_least l.type_name (map new_local (drop l.declarator-index l.declarators)) (seen_scope l.scope))
      ≡ locals_least l.type_name (map new_local l.declarators) (seen_scope l.initial.scope);
  after : (locals_walk l.type_name (map new_local (drop l.declarator-index l.declarators)) (seen_scope l.scope)).after
      ≡ (locals_walk l.type_name (map new_local l.declarators) (seen_scope l.initial.scope)).after;
}
