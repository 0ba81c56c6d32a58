-- The type rules on expressions, places and assignments: rules 12 to 17. A rule on parts holds where a part has no type.
use Rattle.std.specs.Prelude.{Bool, true, false, ◌&&◌, ◌||◌, Option, Some, None}
use Rattle.mpl_mean.specs.TypeRules.Nodes.{Node}
use Rattle.mpl_mean.specs.TypeRules.Nodes as node
use Rattle.mpl_mean.specs.TypeRules.Operations.{Operation}
use Rattle.mpl_mean.specs.TypeRules.Scopes.{Environment}
use Rattle.mpl_mean.specs.TypeRules.Types.{ValueType, OfBool, OfStruct, is_int, is_bool, agree, Shape, OneValue, AnArray, ARegular, shape_of}
use Rattle.mpl_mean.specs.TypeRules.Typing.{target_shape, variable_shape, takes, takes_both, type_of, type_of_whole}

-- ---- rule 12

-- The test of `if`, `while`, `for` is `bool`.
abbrev pub test_is_bool : Environment → Node → Bool
test_is_bool environment (node.ATest test) = agree (Some OfBool) (type_of environment test)
test_is_bool environment other = true

-- ---- rule 13

abbrev pub unary_agrees : Operation → Option ValueType → Bool
unary_agrees operation None = true
unary_agrees operation (Some operand) = takes operation operand

abbrev pub binary_agrees : Operation → Option ValueType → Option ValueType → Bool
binary_agrees operation (Some left) (Some right) = takes_both operation left right
binary_agrees operation left right = true

abbrev pub can_be_printed : Option ValueType → Bool
can_be_printed None = true
can_be_printed (Some type) = is_int type || is_bool type

-- `+ - * / %`, unary `-` and `< <= > >=` have `int` operands; `== !=` two `int` or two `bool`; `! && ||` `bool`; each
-- argument of `print` is `int` or `bool`.
abbrev pub operands_agree : Environment → Node → Bool
operands_agree environment (node.UnaryOperation operation operand) = unary_agrees operation (type_of environment operand)
operands_agree environment (node.BinaryOperation operation left right) = binary_agrees operation (type_of environment left) (type_of environment right)
operands_agree environment (node.Printed argument) = can_be_printed (type_of environment argument)
operands_agree environment other = true

-- ---- rule 14

abbrev pub is_array : Shape → Bool
is_array (AnArray type) = true
is_array shape = false

abbrev pub can_be_indexed : Option Shape → Option ValueType → Bool
can_be_indexed (Some shape) (Some index) = is_array shape && is_int index
can_be_indexed shape index = true

-- What is indexed is an array, and the index is `int`.
abbrev pub index_agrees : Environment → Node → Bool
index_agrees environment (node.Indexed target index) = can_be_indexed (target_shape environment target) (type_of environment index)
index_agrees environment other = true

-- ---- rule 15

abbrev pub is_one_value : Option Shape → Bool
is_one_value None = true
is_one_value (Some (OneValue type)) = true
is_one_value (Some (AnArray type)) = false
is_one_value (Some (ARegular items)) = false

abbrev pub is_no_regular : Option Shape → Bool
is_no_regular (Some (ARegular items)) = false
is_no_regular shape = true

-- A whole array is neither used as a value nor assigned; a variable of a regular class stands only before the dot of a
-- call. `create()` is no such call, and before a dot an array is no value.
abbrev pub place_may_stand : Environment → Node → Bool
place_may_stand environment (node.WholePlace target) = is_one_value (target_shape environment target)
place_may_stand environment (node.Indexed target index) = is_no_regular (target_shape environment target)
place_may_stand environment (node.BeforeField variable) = is_no_regular (variable_shape environment variable.text)
place_may_stand environment (node.ACreate target) = is_no_regular (target_shape environment target)
place_may_stand environment other = true

-- ---- rule 16

abbrev pub is_struct : Option Shape → Bool
is_struct None = true
is_struct (Some (OneValue (OfStruct name))) = true
is_struct shape = false

-- What stands before the dot of a field is a variable of struct type.
abbrev pub field_is_of_struct : Environment → Node → Bool
field_is_of_struct environment (node.BeforeField variable) = is_struct (variable_shape environment variable.text)
field_is_of_struct environment other = true

-- ---- rule 17

abbrev pub initialiser_agrees : Option Shape → Option ValueType → Bool
initialiser_agrees shape value = is_no_regular shape && agree (type_of_whole shape) value

-- The right side has the type of the place or declarator; a declarator with initialiser has no regular class.
abbrev pub right_side_agrees : Environment → Node → Bool
right_side_agrees environment (node.Assigned place value) = agree (type_of environment place) (type_of environment value)
right_side_agrees environment (node.ALocal d (Some value)) = initialiser_agrees (shape_of environment.declarations (Some d)) (type_of environment value)
right_side_agrees environment other = true
