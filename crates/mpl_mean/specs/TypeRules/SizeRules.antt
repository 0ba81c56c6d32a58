-- The type rules on declarations and sizes: rules 4 to 8.
use Rattle.std.specs.Prelude.{ℕ, Bool, true, false, not, ◌&&◌, ◌==◌, nat_le, List}
use Rattle.mpl_ast.specs.declared.class.Item.{Item}
use Rattle.mpl_ast.specs.declared.program.Declaration.{Declaration}
use Rattle.mpl_ast.specs.declared.program.Declaration.TheVariants as declaration
use Rattle.mpl_ast.specs.declared.statement.TypeName.{TypeName}
use Rattle.mpl_ast.specs.declared.statement.TypeName.TheVariants as type
use Rattle.mpl_mean.specs.Meaning.Layout.{is_regular, natural, state_of, words_of_fields}
use Rattle.mpl_mean.specs.TypeRules.Nodes.{Node}
use Rattle.mpl_mean.specs.TypeRules.Nodes as node
use Rattle.mpl_mean.specs.TypeRules.Scopes.{Environment}
use Rattle.mpl_mean.specs.TypeRules.Types.{Meant, AnInt, ABool, AStruct, AClass, Nothing, meant, Role, is_field, is_local, words_of_variables, words_of_state}
use Rattle.mpl_mean.specs.Limits.{most_words, most_words_of_variables, most_declarations, most_members, most_formals, most_entries}

-- ---- rule 4

abbrev pub meant_may_stand : Role → Bool → Meant → Bool
meant_may_stand role bare AnInt = true
meant_may_stand role bare ABool = true
meant_may_stand role bare (AStruct name fields) = not (is_field role)
meant_may_stand role bare (AClass name true items) = is_local role && bare
meant_may_stand role bare (AClass name false items) = true
-- a name that stands for nothing
meant_may_stand role bare Nothing = true

-- A type name in a state member, field, formal, result or local is a struct or a persistent class; a field's is not a
-- struct; a regular class is the type only of a local without dimension and initialiser.
abbrev pub type_may_stand : Environment → Node → Bool
type_may_stand environment (node.UsedType role bare type) = meant_may_stand role bare (meant environment.declarations type)
type_may_stand environment other = true

-- ---- rule 5

abbrev pub is_element : TypeName → Bool
is_element (type.Int at) = true
is_element (type.Bool at) = true
is_element (type.Named at name) = false

abbrev pub is_size : ℕ → Bool
is_size words = nat_le 1 words && nat_le words most_words

-- A dimension is 1 to 256, and its element is `int` or `bool`.
abbrev pub dimension_fits : Environment → Node → Bool
dimension_fits environment (node.ADimension type value) = is_size (natural value) && is_element type
dimension_fits environment other = true

-- ---- rule 6

abbrev pub state_fits : List Declaration → Bool → List Item → Bool
state_fits ds true items = true
state_fits ds false items = nat_le (words_of_state ds (state_of items)) most_words

abbrev pub declaration_fits : List Declaration → Declaration → Bool
declaration_fits ds (declaration.Struct at line name fields) = is_size (words_of_fields fields)
declaration_fits ds (declaration.Class at line kind name items) = state_fits ds (is_regular kind) items
declaration_fits ds (declaration.Function at result name formals body) = true

-- A struct has 1 to 256 words; the state of a persistent class has at most 256; a field whose type fails a rule counts
-- one word for each element.
abbrev pub size_fits : Environment → Node → Bool
size_fits environment (node.ADeclaration before d) = declaration_fits environment.declarations d
size_fits environment other = true

-- ---- rule 7

-- Formals and all locals of one function or member have at most 1,024 words together. One whose type name stands for
-- nothing counts one word for each element.
abbrev pub variables_fit : Environment → Node → Bool
variables_fit environment (node.Routine variables) = nat_le (words_of_variables environment.declarations variables) most_words_of_variables
variables_fit environment other = true

-- ---- rule 8

-- the first too many has the most before it
abbrev pub is_not_first_too_many : ℕ → ℕ → Bool
is_not_first_too_many most before = not (before == most)

-- There are at most 4,096 declarations, 64 members in a class, 16 formals of a function or member, 256 entries in a
-- select. Members are a class's functions.
abbrev pub count_is_allowed : Environment → Node → Bool
count_is_allowed environment (node.ADeclaration before d) = is_not_first_too_many most_declarations before
count_is_allowed environment (node.AMember before result) = is_not_first_too_many most_members before
count_is_allowed environment (node.AFormal before) = is_not_first_too_many most_formals before
count_is_allowed environment (node.AnEntry before) = is_not_first_too_many most_entries before
count_is_allowed environment other = true
