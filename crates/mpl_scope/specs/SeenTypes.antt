-- What the checker's own types stand for.
use Rattle.std.specs.Prelude.{Option, option_map}
use Rattle.mpl_mean.specs.TypeRules.Operations as rules
use Rattle.mpl_mean.specs.TypeRules.Types as types
use Rattle.mpl_scope.specs.declared.types.Operation.{Operation}
use Rattle.mpl_scope.specs.declared.types.Operation.TheVariants as operation
use Rattle.mpl_scope.specs.declared.types.ValueType.{ValueType}
use Rattle.mpl_scope.specs.declared.types.ValueType.TheVariants as value

abbrev pub seen_operation : Operation → rules.Operation
seen_operation operation.Arithmetic = rules.Arithmetic
seen_operation operation.Comparison = rules.Comparison
seen_operation operation.Equality = rules.Equality
seen_operation operation.Logic = rules.Logic

abbrev pub seen_type : ValueType → types.ValueType
seen_type value.Int = types.OfInt
seen_type value.Bool = types.OfBool
seen_type (value.Struct name) = types.OfStruct name.now
seen_type (value.Class name) = types.OfClass name.now

abbrev pub seen_types : Option ValueType → Option types.ValueType
seen_types = option_map seen_type
