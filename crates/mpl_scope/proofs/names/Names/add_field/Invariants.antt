use Rattle.std.proofs.Common.{◌≡◌, ◌++◌, drop, map}
use Rattle.mpl_scope.specs.SeenDeclared.{seen_role}
use Rattle.mpl_scope.proofs.ListLemmas.{declared_name}
use Rattle.mpl_scope.proofs.names.Names.add_field.Given as goal

-- those so far and those that are left are all
abbrev pub invariant-loop-name : goal.invariant-loop-name
invariant-loop-name l =
    l.self ++ map (declared_name (seen_role l.role) l.field.type_name) (drop l.name-index l.name-items)
    ≡ l.initial.self ++ map (declared_name (seen_role l.role) l.field.type_name) l.name-items
