-- The type rules on calls: rules 18 to 22.
use Rattle.std.specs.Prelude.{Bool, true, false, ◌&&◌, List, Option, Some, None}
use Rattle.mpl_ast.specs.declared.program.Declaration.{Declaration}
use Rattle.mpl_mean.specs.TypeRules.ClassRules.{has_value}
use Rattle.mpl_mean.specs.Meaning.Layout.{Function, Member}
use Rattle.mpl_mean.specs.TypeRules.Nodes.{Node}
use Rattle.mpl_mean.specs.TypeRules.Nodes as node
use Rattle.mpl_mean.specs.TypeRules.Scopes.{Environment, Body, NoBody, InGuard, InMain, InFunction, InMember, is_in_member, is_persistent, plain_function}
use Rattle.mpl_mean.specs.TypeRules.Types.{ValueType, OfClass, Shape, OneValue, ARegular}
use Rattle.mpl_mean.specs.TypeRules.Typing.{target_shape, receiver_shape, member_called, formal_types, arguments_agree, types_of}

-- ---- rule 18

abbrev pub function_takes : List Declaration → Option Function → List (Option ValueType) → Bool
function_takes ds None arguments = true
function_takes ds (Some function) arguments = arguments_agree arguments (formal_types ds function.formals)

-- A plain call has as many arguments as formals, of the same types.
abbrev pub plain_call_agrees : Environment → Node → Bool
plain_call_agrees environment (node.APlainCall function arguments) =
    function_takes environment.declarations (plain_function environment function.text) (types_of environment arguments)
plain_call_agrees environment other = true

-- ---- rule 19

abbrev pub is_object : Option Shape → Bool
is_object None = true
is_object (Some (OneValue (OfClass name))) = true
is_object shape = false

abbrev pub can_be_called : Option Shape → Bool
can_be_called (Some (ARegular items)) = true
can_be_called shape = is_object shape

abbrev pub member_takes : List Declaration → Option Member → List (Option ValueType) → Bool
member_takes ds None arguments = true
member_takes ds (Some member) arguments = arguments_agree arguments (formal_types ds member.formals)

-- The receiver of a call is `self`, a local of a regular class, or a target of a persistent class; the target of
-- `create` is of a persistent class; arguments have the formals' number and types.
abbrev pub member_call_agrees : Environment → Node → Bool
member_call_agrees environment (node.ACall receiver member arguments) =
    can_be_called (receiver_shape environment receiver) && member_takes environment.declarations (member_called environment receiver member.text) (types_of environment arguments)
member_call_agrees environment (node.ACreate target) = is_object (target_shape environment target)
member_call_agrees environment other = true

-- ---- rule 20

abbrev pub member_has_value : Option Member → Bool
member_has_value None = true
member_has_value (Some member) = has_value member.result

-- A call of a void member is a whole statement.
abbrev pub void_call_is_alone : Environment → Node → Bool
void_call_is_alone environment (node.PassedOn receiver member) = member_has_value (member_called environment receiver member.text)
void_call_is_alone environment other = true

-- ---- rule 21

abbrev pub is_no_object : Option Shape → Bool
is_no_object (Some (OneValue (OfClass name))) = false
is_no_object shape = true

-- where a call on such a receiver may stand, in a persistent class or not
abbrev pub call_may_stand : Body → Bool → Option Shape → Bool
call_may_stand InMain persistent receiver = true
call_may_stand (InMember result) true receiver = true
call_may_stand (InMember result) false receiver = is_no_object receiver
call_may_stand (InFunction result) persistent receiver = false
call_may_stand InGuard persistent receiver = false
call_may_stand NoBody persistent receiver = false

abbrev pub create_may_stand : Body → Bool → Bool
create_may_stand InMain persistent = true
create_may_stand (InMember result) persistent = persistent
create_may_stand body persistent = false

-- Calls of members stand in main and members, and `create` in main and members of persistent classes; in a regular member
-- only calls on regular classes.
abbrev pub call_is_in_place : Environment → Node → Bool
call_is_in_place environment (node.ACall receiver member arguments) = call_may_stand environment.body (is_persistent environment.class) (receiver_shape environment receiver)
call_is_in_place environment (node.ACreate target) = create_may_stand environment.body (is_persistent environment.class)
call_is_in_place environment other = true

-- ---- rule 22

-- `self` stands only in members of persistent classes.
abbrev pub self_is_in_place : Environment → Node → Bool
self_is_in_place environment node.AnOwn = is_in_member environment.body && is_persistent environment.class
self_is_in_place environment other = true
