use Rattle.std.proofs.Common.{◌≡◌, ◌++◌, drop, map}
use Rattle.mpl_mean.specs.Plain.Stmt.{new_local}
use Rattle.mpl_mean.specs.Plain.Scopes.{declares_all}
use Rattle.mpl_body_code.specs.Codes.{locals_code}
use Rattle.mpl_body_image.specs.Internal.SeenScope.{env_seen}
use Rattle.mpl_body_image.proofs.statements.declare.Given as goal

abbrev pub invariant-loop-declarator : goal.invariant-loop-declarator
invariant-loop-declarator l =
    (l.code ++ locals_code (env_seen l.scope) l.local.type_name (map new_local (drop l.declarator-index l.declarator-items))
    ≡ l.initial.code ++ locals_code (env_seen l.initial.scope) l.local.type_name (map new_local l.declarator-items))
    × (declares_all l.local.type_name (map new_local (drop l.declarator-index l.declarator-items)) (env_seen l.scope)
    ≡ declares_all l.local.type_name (map new_local l.declarator-items) (env_seen l.initial.scope))
