-- What the checker's own variables and fields stand for.
use Rattle.mpl_mean.specs.TypeRules.Types as types
use Rattle.mpl_scope.specs.declared.names.Declared.{Declared}
use Rattle.mpl_scope.specs.declared.names.Role.{Role}
use Rattle.mpl_scope.specs.declared.names.Role.TheVariants as role

abbrev pub seen_role : Role → types.Role
seen_role role.State = types.InState
seen_role role.Field = types.InStruct
seen_role role.Formal = types.AsFormal
seen_role role.Result = types.AsResult
seen_role role.Local = types.AsLocal

abbrev pub seen_declared : Declared → types.Declared
seen_declared d = record { role = seen_role d.role; name = d.name.now; type = d.type_name.now; dimension = d.dimension }
