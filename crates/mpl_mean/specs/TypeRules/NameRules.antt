-- The type rules on names and on main: rules 1 to 3.
use Rattle.std.specs.Prelude.{ℕ, Bool, true, false, not, ◌&&◌, List, [], ◌∷◌, is_some, Option, Some, None}
use Rattle.std.specs.List.{list_any}
use Rattle.std.specs.Str.{bytes_eq}
use Rattle.mpl_ast.specs.declared.class.Formal.{Formal}
use Rattle.mpl_ast.specs.declared.class.Item.{Item}
use Rattle.mpl_ast.specs.declared.program.Declaration.{Declaration}
use Rattle.mpl_ast.specs.declared.program.Declaration.TheVariants as declaration
use Rattle.mpl_ast.specs.declared.statement.TypeName.{TypeName}
use Rattle.mpl_ast.specs.declared.statement.TypeName.TheVariants as type
use Rattle.mpl_mean.specs.Meaning.Layout.{formals_of}
use Rattle.mpl_mean.specs.TypeRules.Nodes.{Node}
use Rattle.mpl_mean.specs.TypeRules.Nodes as node
use Rattle.mpl_mean.specs.TypeRules.ProgramNodes.{declared_name}
use Rattle.mpl_mean.specs.TypeRules.Scopes.{Environment, Surrounding, variable_of, plain_function, is_main}
use Rattle.mpl_mean.specs.TypeRules.Types.{OneValue, OfStruct, Meant, Nothing, AStruct, meant, meant_by, InStruct, Shape, first_named, declared_fields}
use Rattle.mpl_mean.specs.TypeRules.Typing.{variable_shape, receiver_shape, items_called, member_of}

-- ---- rule 1

abbrev pub is_meant : Meant → Bool
is_meant Nothing = false
is_meant m = true

abbrev pub meant_has_field : List ℕ → Meant → Bool
meant_has_field field (AStruct name fields) = is_some (first_named field (declared_fields InStruct fields))
meant_has_field field m = true

-- nothing is asked of a field of what is no struct
abbrev pub has_field : List Declaration → List ℕ → Option Shape → Bool
has_field ds field (Some (OneValue (OfStruct name))) = meant_has_field field (meant_by name ds)
has_field ds field shape = true

-- nothing is asked of a member of what has no class
abbrev pub has_member : List ℕ → Option (List Item) → Bool
has_member name None = true
has_member name (Some items) = is_some (member_of name items)

abbrev pub class_has_member : List ℕ → Option Surrounding → Bool
class_has_member name None = false
class_has_member name (Some class) = is_some (member_of name class.items)

-- A name used as a variable is in scope; as a type it is a struct or class; as a plain function it is a declared
-- function other than `main`; after a dot it is a field of the struct or a member of the class before the dot; after
-- `accept` it is a member of its class.
abbrev pub name_is_known : Environment → Node → Bool
name_is_known environment (node.UsedVariable name) = is_some (variable_of environment name.text)
name_is_known environment (node.UsedType role bare type) = is_meant (meant environment.declarations type)
name_is_known environment (node.UsedFunction name) = is_some (plain_function environment name.text)
name_is_known environment (node.UsedField variable field) = has_field environment.declarations field.text (variable_shape environment variable.text)
name_is_known environment (node.UsedMember receiver name) = has_member name.text (items_called environment.declarations (receiver_shape environment receiver))
name_is_known environment (node.Accepted name) = class_has_member name.text environment.class
name_is_known environment other = true

-- ---- rule 2

-- Names differ among all declarations of the program, among a struct's fields, among a class's state members and
-- members together, among formals, among the locals of one block; a body's outermost locals differ from its formals.
abbrev pub name_is_new : Environment → Node → Bool
name_is_new environment (node.NewName name earlier) = not (list_any (bytes_eq name) earlier)
name_is_new environment other = true

-- ---- rule 3

abbrev pub is_int_type : TypeName → Bool
is_int_type (type.Int at) = true
is_int_type (type.Bool at) = false
is_int_type (type.Named at name) = false

abbrev pub are_no_formals : List Formal → Bool
are_no_formals [] = true
are_no_formals (formal ∷ others) = false

-- `int NAME()`
abbrev pub is_int_without_formals : Declaration → Bool
is_int_without_formals (declaration.Struct at line name fields) = false
is_int_without_formals (declaration.Class at line kind name items) = false
is_int_without_formals (declaration.Function at result name formals body) = is_int_type result && are_no_formals (formals_of formals)

abbrev pub is_named_main : Declaration → Bool
is_named_main d = is_main (declared_name d).text

abbrev pub main_is_right : Bool → Declaration → Bool
main_is_right false d = true
main_is_right true d = is_int_without_formals d

-- There is a `main`, and each declaration of that name is `int main()` without formals.
abbrev pub main_is_there : Environment → Node → Bool
main_is_there environment node.TheProgram = list_any is_named_main environment.declarations
main_is_there environment (node.ADeclaration before d) = main_is_right (is_named_main d) d
main_is_there environment other = true
