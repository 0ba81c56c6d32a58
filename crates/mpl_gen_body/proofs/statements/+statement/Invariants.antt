use Rattle.std.proofs.Common.{◌≡◌, drop}
use Rattle.mpl_mean.specs.Plain.Stmt.{stmts_from}
use Rattle.mpl_gen_code.specs.StatementCode.{behind_all, stmts_code}
use Rattle.mpl_gen_expr.specs.Texts.{written}
use Rattle.mpl_gen_scope.specs.SeenScope.{env_seen}
use Rattle.mpl_gen_body.proofs.statements.+statement.Given as goal

abbrev pub invariant-statements-loop-node : goal.invariant-statements-loop-node
invariant-statements-loop-node l =
    (written (stmts_code (env_seen l.scope) (stmts_from (drop l.node-index l.list))) l.codes ≡ written (stmts_code (env_seen l.initial.scope) (stmts_from l.list)) l.initial.codes)
    × (behind_all (stmts_from (drop l.node-index l.list)) (env_seen l.scope) ≡ behind_all (stmts_from l.list) (env_seen l.initial.scope))
