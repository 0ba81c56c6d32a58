use Rattle.std.proofs.Common.{◌≡◌, ◌++◌, drop}
use Rattle.mpl_mean.specs.Plain.Stmt.{stmts_from}
use Rattle.mpl_body_code.specs.Codes.{statements_code}
use Rattle.mpl_body_image.specs.Internal.SeenScope.{env_seen}
use Rattle.mpl_locals.specs.Behind.{behind_all}
use Rattle.mpl_body_image.proofs.statements.+statement.Given as goal

abbrev pub invariant-statements-loop-node : goal.invariant-statements-loop-node
invariant-statements-loop-node l =
    (l.code ++ statements_code (env_seen l.scope) (stmts_from (drop l.node-index l.list)) ≡ l.initial.code ++ statements_code (env_seen l.initial.scope) (stmts_from l.list))
    × (behind_all (stmts_from (drop l.node-index l.list)) (env_seen l.scope) ≡ behind_all (stmts_from l.list) (env_seen l.initial.scope))
