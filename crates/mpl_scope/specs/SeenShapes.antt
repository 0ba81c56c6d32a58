-- What the checker's own shapes stand for.
use Rattle.std.specs.Prelude.{Option, option_map}
use Rattle.mpl_mean.specs.TypeRules.Types as types
use Rattle.mpl_scope.specs.SeenTypes.{seen_type}
use Rattle.mpl_scope.specs.declared.shapes.Shape.{Shape}
use Rattle.mpl_scope.specs.declared.shapes.Shape.TheVariants as shape

abbrev pub seen_shape : Shape → types.Shape
seen_shape (shape.OneValue value) = types.OneValue (seen_type value)
seen_shape (shape.AnArray value) = types.AnArray (seen_type value)
seen_shape (shape.ARegular class) = types.ARegular class.now.items

abbrev pub seen_shapes : Option Shape → Option types.Shape
seen_shapes = option_map seen_shape
