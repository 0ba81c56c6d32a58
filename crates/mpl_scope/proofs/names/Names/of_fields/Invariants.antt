use Rattle.std.proofs.Common.{◌≡◌, ◌++◌, drop}
use Rattle.mpl_mean.specs.TypeRules.Types.{InStruct, declared_fields}
use Rattle.mpl_scope.proofs.names.Names.of_fields.Given as goal

-- those so far and those that are left are all
abbrev pub invariant-loop-field : goal.invariant-loop-field
invariant-loop-field l = l.names ++ declared_fields InStruct (drop l.field-index l.fields) ≡ declared_fields InStruct l.fields
