use Rattle.std.proofs.Common.{◌≡◌, ◌++◌, map, drop}
use Rattle.mpl_mean.specs.Plain.Stmt.{stmts_from}
use Rattle.mpl_depend.specs.Internal.SeenScope.{env_seen}
use Rattle.mpl_depend.specs.Internal.SeenWays.{ways_seen}
use Rattle.mpl_locals.specs.Behind.{behind_all}
use Rattle.mpl_depend.proofs.Rows.{stmts_row}
use Rattle.mpl_depend.proofs.statements.+statement.Given as goal

abbrev pub invariant-statements-loop-node : goal.invariant-statements-loop-node
invariant-statements-loop-node l = record {
  row : map ways_seen l.ways.items ++ stmts_row (env_seen l.scope) (drop l.node-index l.list) ≡ stmts_row (env_seen l.initial.scope) l.list;
  scope : behind_all (stmts_from (drop l.node-index l.list)) (env_seen l.scope) ≡ behind_all (stmts_from l.list) (env_seen l.initial.scope);
}
