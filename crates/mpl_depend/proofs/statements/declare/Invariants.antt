use Rattle.std.proofs.Common.{◌≡◌, ◌++◌, map, drop}
use Rattle.mpl_mean.specs.Plain.Scopes.{declares_all}
use Rattle.mpl_mean.specs.Plain.Stmt.{new_local}
use Rattle.mpl_depend.specs.Internal.SeenScope.{env_seen}
use Rattle.mpl_depend.specs.Internal.SeenWays.{ways_seen}
use Rattle.mpl_depend.proofs.Rows.{locals_row}
use Rattle.mpl_depend.proofs.statements.declare.Given as goal

abbrev pub invariant-loop-declarator : goal.invariant-loop-declarator
invariant-loop-declarator l = record {
  row : map ways_seen l.ways.items ++ locals_row l.local.type_name (env_seen l.scope) (drop l.declarator-index l.declarator-items) ≡ locals_row l.local.type_name (env_seen l.initial.scope) l.declarator-items;
  scope : declares_all l.local.type_name (map new_local (drop l.declarator-index l.declarator-items)) (env_seen l.scope) ≡ declares_all l.local.type_name (map new_local l.declarator-items) (env_seen l.initial.scope);
}
