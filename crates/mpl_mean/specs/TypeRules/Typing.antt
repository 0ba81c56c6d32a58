-- The type of an expression, a place, a flow and a call. It has none where a rule that decides it fails.
use Rattle.std.specs.Prelude.{ℕ, Bool, true, ◌&&◌, ◌||◌, ◌==◌, List, [], ◌∷◌, map, length, is_none, Option, Some, None, if◌then◌else◌}
use Rattle.std.specs.List.{list_any}
use Rattle.std.specs.Option.{option_map, option_and_then}
use Rattle.mpl_ast.specs.declared.class.Formal.{Formal}
use Rattle.mpl_ast.specs.declared.class.Item.{Item}
use Rattle.mpl_ast.specs.declared.expression.Target.{Target}
use Rattle.mpl_ast.specs.declared.expression.Target.TheVariants as target
use Rattle.mpl_ast.specs.declared.program.Declaration.{Declaration}
use Rattle.mpl_mean.specs.Meaning.Layout.{Function, Member, member_named, members_from}
use Rattle.mpl_mean.specs.Plain.Expr.{Expr, Exprs}
use Rattle.mpl_mean.specs.Plain.Expr as expr
use Rattle.mpl_mean.specs.TypeRules.Operations.{Operation, Arithmetic, Comparison, Equality, Logic, binary_operation, unary_operation}
use Rattle.mpl_mean.specs.TypeRules.Scopes.{Environment, Body, InMember, Surrounding, variable_of, plain_function}
use Rattle.mpl_mean.specs.TypeRules.Types.{ValueType, OfInt, OfBool, OfStruct, OfClass, is_int, is_bool, agree, Meant, AStruct, AClass, meant, meant_by, InStruct, AsFormal, AsResult, value_type, result_type, first_named, declared_fields, Shape, OneValue, AnArray, ARegular, shape_of}

-- ---- places

-- a field of a struct
abbrev pub shape_of_field : List Declaration → List ℕ → Meant → Option Shape
shape_of_field ds field (AStruct name fields) = shape_of ds (first_named field (declared_fields InStruct fields))
shape_of_field ds field m = None

-- the field of that name in what stands before the dot
abbrev pub shape_behind_dot : List Declaration → List ℕ → Option Shape → Option Shape
shape_behind_dot ds field (Some (OneValue (OfStruct name))) = shape_of_field ds field (meant_by name ds)
shape_behind_dot ds field shape = None

abbrev pub variable_shape : Environment → List ℕ → Option Shape
variable_shape environment name = shape_of environment.declarations (variable_of environment name)

abbrev pub target_shape : Environment → Target → Option Shape
target_shape environment (target.Variable at variable) = variable_shape environment variable.text
target_shape environment (target.Field at variable field) = shape_behind_dot environment.declarations field.text (variable_shape environment variable.text)

-- a whole array has no type, nor has a variable of a regular class
abbrev pub type_of_whole : Option Shape → Option ValueType
type_of_whole (Some (OneValue type)) = Some type
type_of_whole shape = None

-- The index is `int`, or has no type.
abbrev pub type_of_element : Option Shape → Option ValueType → Option ValueType
type_of_element (Some (AnArray type)) index = if agree (Some OfInt) index then Some type else None
type_of_element shape index = None

-- ---- operators

abbrev pub takes_both : Operation → ValueType → ValueType → Bool
takes_both Arithmetic left right = is_int left && is_int right
takes_both Comparison left right = is_int left && is_int right
takes_both Equality left right = (is_int left && is_int right) || (is_bool left && is_bool right)
takes_both Logic left right = is_bool left && is_bool right

abbrev pub takes : Operation → ValueType → Bool
takes operation operand = takes_both operation operand operand

abbrev pub outcome : Operation → ValueType
outcome Arithmetic = OfInt
outcome Comparison = OfBool
outcome Equality = OfBool
outcome Logic = OfBool

abbrev pub type_of_binary : Operation → Option ValueType → Option ValueType → Option ValueType
type_of_binary operation (Some left) (Some right) = if takes_both operation left right then Some (outcome operation) else None
type_of_binary operation left right = None

abbrev pub type_of_unary : Operation → Option ValueType → Option ValueType
type_of_unary operation (Some operand) = if takes operation operand then Some (outcome operation) else None
type_of_unary operation None = None

-- ---- calls

abbrev pub type_of_own : Body → Option Surrounding → Option ValueType
type_of_own (InMember result) (Some class) = if class.is_regular then None else Some (OfClass class.name)
type_of_own body class = None

abbrev pub own_type : Environment → Option ValueType
own_type environment = type_of_own environment.body environment.class

abbrev pub own_shape : Environment → Option Shape
own_shape environment = option_map OneValue (own_type environment)

-- what is called: `self` where there is no target
abbrev pub receiver_shape : Environment → Option Target → Option Shape
receiver_shape environment None = own_shape environment
receiver_shape environment (Some target) = target_shape environment target

abbrev pub items_of_meant : Meant → Option (List Item)
items_of_meant (AClass name is_regular items) = Some items
items_of_meant m = None

-- the items of the class of what is called
abbrev pub items_called : List Declaration → Option Shape → Option (List Item)
items_called ds (Some (ARegular items)) = Some items
items_called ds (Some (OneValue (OfClass name))) = items_of_meant (meant_by name ds)
items_called ds shape = None

abbrev pub member_of : List ℕ → List Item → Option Member
member_of name items = member_named name (members_from 0 items)

abbrev pub member_called : Environment → Option Target → List ℕ → Option Member
member_called environment receiver name = option_and_then (member_of name) (items_called environment.declarations (receiver_shape environment receiver))

abbrev pub type_of_plain_call : List Declaration → Option Function → Option ValueType
type_of_plain_call ds None = None
type_of_plain_call ds (Some function) = value_type AsResult (meant ds function.result)

-- the call of a void member has no type
abbrev pub type_of_call : List Declaration → Option Member → Option ValueType
type_of_call ds None = None
type_of_call ds (Some member) = result_type ds member.result

abbrev pub formal_types : List Declaration → List Formal → List (Option ValueType)
formal_types ds formals = map (λ (formal : Formal). value_type AsFormal (meant ds formal.type_name)) formals

abbrev pub all_agree : List (Option ValueType) → List (Option ValueType) → Bool
all_agree (argument ∷ arguments) (formal ∷ formals) = agree argument formal && all_agree arguments formals
all_agree arguments formals = true

-- As many as formals, of the same types. Where an argument has no type, no types are compared.
abbrev pub arguments_agree : List (Option ValueType) → List (Option ValueType) → Bool
arguments_agree arguments formals = (length arguments == length formals) && (list_any is_none arguments || all_agree arguments formals)

-- ---- the whole of it

abbrev pub type_of : Environment → Expr → Option ValueType
type_of environment (expr.Number at value) = Some OfInt
type_of environment (expr.Truth at value) = Some OfBool
type_of environment (expr.Own at) = own_type environment
type_of environment (expr.Input at) = Some OfInt
type_of environment (expr.Whole at target) = type_of_whole (target_shape environment target)
type_of environment (expr.Element at line target index) = type_of_element (target_shape environment target) (type_of environment index)
type_of environment (expr.PlainCall at function arguments) = type_of_plain_call environment.declarations (plain_function environment function.text)
type_of environment (expr.Parenthesized at inner) = type_of environment inner
type_of environment (expr.Unary at line operator operand) = type_of_unary (unary_operation operator) (type_of environment operand)
type_of environment (expr.Binary at line operator left right) = type_of_binary (binary_operation operator) (type_of environment left) (type_of environment right)
type_of environment (expr.CallOnOwn at member arguments) = type_of_call environment.declarations (member_called environment None member.text)
type_of environment (expr.CallOnTarget at target member arguments) = type_of_call environment.declarations (member_called environment (Some target) member.text)

abbrev pub types_of : Environment → Exprs → List (Option ValueType)
types_of environment expr.NoExpr = []
types_of environment (expr.MoreExprs first others) = type_of environment first ∷ types_of environment others
