use Rattle.std.proofs.Common.{◌≡◌, drop, map}
use Rattle.mpl_mean.specs.TypeRules.StatementNodes.{stmts_walk}
use Rattle.mpl_mean.specs.Plain.Stmt.{in_turn, stmt_of}
use Rattle.mpl_scope.specs.SeenScope.{seen_scope}
use Rattle.mpl_types.specs.Internal.Least.{earlier}
use Rattle.mpl_types.specs.Internal.Seen.{failure_of}
use Rattle.mpl_types.specs.Internal.Statements.{stmts_least}
use Rattle.mpl_types.proofs.statements.+statement.Given as goal

-- what failed so far, with what fails among those that are left, and what surrounds those behind them
abbrev pub invariant-check_statements-loop-statement : goal.invariant-check_statements-loop-statement
invariant-check_statements-loop-statement l = record {
  least : earlier (failure_of l.found) (stmts_least (in_turn (map stmt_of (drop l.statement-index l.statements))) (seen_scope l.scope))
      ≡ stmts_least (in_turn (map stmt_of l.statements)) (seen_scope l.initial.scope);
  after : (stmts_walk (in_turn (map stmt_of (drop l.statement-index l.statements))) (seen_scope l.scope)).after
      ≡ (stmts_walk (in_turn (map stmt_of l.statements)) (seen_scope l.initial.scope)).after;
}
