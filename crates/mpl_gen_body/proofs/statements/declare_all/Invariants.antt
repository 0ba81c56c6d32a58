use Rattle.std.proofs.Common.{◌≡◌, drop, map}
use Rattle.mpl_mean.specs.Plain.Stmt.{new_local}
use Rattle.mpl_gen_code.specs.StatementCode.{declares_all, locals_code}
use Rattle.mpl_gen_expr.specs.Texts.{written}
use Rattle.mpl_gen_scope.specs.SeenScope.{env_seen}
use Rattle.mpl_gen_body.proofs.statements.declare_all.Given as goal

abbrev pub invariant-loop-declarator : goal.invariant-loop-declarator
invariant-loop-declarator l =
    (written (locals_code (env_seen l.scope) l.local.type_name (map new_local (drop l.declarator-index l.declarator-items))) l.codes
    ≡ written (locals_code (env_seen l.initial.scope) l.local.type_name (map new_local l.declarator-items)) l.initial.codes)
    × (declares_all l.local.type_name (map new_local (drop l.declarator-index l.declarator-items)) (env_seen l.scope)
    ≡ declares_all l.local.type_name (map new_local l.declarator-items) (env_seen l.initial.scope))
