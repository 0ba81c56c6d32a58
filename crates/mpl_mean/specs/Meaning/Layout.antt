-- What the names of a program stand for, and how many words their values have.
use Rattle.std.specs.Prelude.{ℕ, ◌+◌, Bool, true, false, List, [], ◌∷◌, ◌++◌, length, Option, Some, None, if◌then◌else◌, ℤ, pos, negsuc, sum_by, nat_eq}
use Rattle.std.specs.Option.{option_map}
use Rattle.std.specs.Str.{bytes_eq}
use Rattle.mpl_ast.specs.declared.class.Field.{Field}
use Rattle.mpl_ast.specs.declared.class.FieldName.{FieldName}
use Rattle.mpl_ast.specs.declared.class.Formal.{Formal}
use Rattle.mpl_ast.specs.declared.class.Formals.{Formals}
use Rattle.mpl_ast.specs.declared.class.Item.{Item}
use Rattle.mpl_ast.specs.declared.class.Item.TheVariants as item
use Rattle.mpl_ast.specs.declared.class.Kind.{Kind}
use Rattle.mpl_ast.specs.declared.class.Kind.TheVariants.{Regular, Persistent}
use Rattle.mpl_ast.specs.declared.class.ResultType.{ResultType}
use Rattle.mpl_ast.specs.declared.program.Declaration.{Declaration}
use Rattle.mpl_ast.specs.declared.program.Declaration.TheVariants as declaration
use Rattle.mpl_ast.specs.declared.statement.Block.{Block}
use Rattle.mpl_ast.specs.declared.statement.Dimension.{Dimension}
use Rattle.mpl_ast.specs.declared.statement.TypeName.{TypeName}
use Rattle.mpl_ast.specs.declared.statement.TypeName.TheVariants as type

-- ---- functions and members

abbrev pub formals_of : Option Formals → List Formal
formals_of None = []
formals_of (Some formals) = formals.list

-- a plain function, of those that are declared
pub record Function : Type 0 where
  pub result : TypeName
  pub formals : List Formal
  pub body : Block

-- a member of a class
pub record Member : Type 0 where
  -- its place among all members of the program
  pub id : ℕ
  pub name : List ℕ
  pub result : ResultType
  pub formals : List Formal
  pub body : Block

pub record Class : Type 0 where
  -- its place among the classes
  pub number : ℕ
  pub name : List ℕ
  pub is_regular : Bool
  pub state : List Field
  pub members : List Member

-- the members of a class, of which the first has this number
abbrev pub members_from : ℕ → List Item → List Member
members_from id [] = []
members_from id (item.OfField at field ∷ items) = members_from id items
members_from id (item.Member at result name formals body ∷ items) =
    record { id = id; name = name.text; result = result; formals = formals_of formals; body = body } ∷ members_from (id + 1) items
members_from id (item.Select at line entries ∷ items) = members_from id items
members_from id (item.Public at ∷ items) = members_from id items
members_from id (item.Private at ∷ items) = members_from id items
members_from id (item.Empty at ∷ items) = members_from id items

-- the state members of a class
abbrev pub state_of : List Item → List Field
state_of [] = []
state_of (item.OfField at field ∷ items) = field ∷ state_of items
state_of (item.Member at result name formals body ∷ items) = state_of items
state_of (item.Select at line entries ∷ items) = state_of items
state_of (item.Public at ∷ items) = state_of items
state_of (item.Private at ∷ items) = state_of items
state_of (item.Empty at ∷ items) = state_of items

abbrev pub is_regular : Kind → Bool
is_regular (Regular at) = true
is_regular (Persistent at) = false

-- the classes, of which the first has this number and the first member that number
abbrev pub classes_from : ℕ → ℕ → List Declaration → List Class
classes_from number id [] = []
classes_from number id (declaration.Struct at line name fields ∷ others) = classes_from number id others
classes_from number id (declaration.Class at line kind name items ∷ others) =
    record { number = number; name = name.text; is_regular = is_regular kind; state = state_of items; members = members_from id items }
    ∷ classes_from (number + 1) (id + length (members_from id items)) others
classes_from number id (declaration.Function at result name formals body ∷ others) = classes_from number id others

abbrev pub classes_of : List Declaration → List Class
classes_of = classes_from 0 0

abbrev pub class_named : List ℕ → List Class → Option Class
class_named name [] = None
class_named name (class ∷ others) = if bytes_eq class.name name then Some class else class_named name others

abbrev pub member_named : List ℕ → List Member → Option Member
member_named name [] = None
member_named name (member ∷ others) = if bytes_eq member.name name then Some member else member_named name others

abbrev pub member_numbered : ℕ → List Member → Option Member
member_numbered id [] = None
member_numbered id (member ∷ others) = if nat_eq member.id id then Some member else member_numbered id others

abbrev pub function_named : List ℕ → List Declaration → Option Function
function_named name [] = None
function_named name (declaration.Struct at line struct fields ∷ others) = function_named name others
function_named name (declaration.Class at line kind class items ∷ others) = function_named name others
function_named name (declaration.Function at result function formals body ∷ others) =
    if bytes_eq function.text name then Some (record { result = result; formals = formals_of formals; body = body }) else function_named name others

-- ---- what a type's name stands for

pub data Meant : Type 0 where
  AnInt : Meant
  ABool : Meant
  AStruct : (name : List ℕ) → List Field → Meant
  AClass : (name : List ℕ) → (is_regular : Bool) → List Item → Meant
  Nothing : Meant

-- the first struct or class of that name
abbrev pub meant_by : List ℕ → List Declaration → Meant
meant_by name [] = Nothing
meant_by name (declaration.Struct at line struct fields ∷ others) =
    if bytes_eq struct.text name then AStruct name fields else meant_by name others
meant_by name (declaration.Class at line kind class items ∷ others) =
    if bytes_eq class.text name then AClass name (is_regular kind) items else meant_by name others
meant_by name (declaration.Function at result function formals body ∷ others) = meant_by name others

abbrev pub meant : List Declaration → TypeName → Meant
meant ds (type.Int at) = AnInt
meant ds (type.Bool at) = ABool
meant ds (type.Named at name) = meant_by name.text ds

-- ---- words

abbrev pub natural : ℤ → ℕ
natural (pos n) = n
natural (negsuc n) = 0

abbrev pub dimension_of : Option Dimension → Option ℕ
dimension_of dimension = option_map (λ d. natural d.number.value) dimension

-- the words of a type of one word, or of an array of them
abbrev pub words_of_word : Option ℕ → ℕ
words_of_word None = 1
words_of_word (Some dimension) = dimension

abbrev pub words_of_fields : List Field → ℕ
words_of_fields fields = sum_by (λ (field : Field). sum_by (λ (name : FieldName). words_of_word (dimension_of name.dimension)) field.names) fields

-- the words of one value of what a type's name stands for: a local of a regular class has none, a persistent class one, the
-- number of its object, and a name that stands for nothing counts one
abbrev pub words_of_one : Meant → ℕ
words_of_one AnInt = 1
words_of_one ABool = 1
words_of_one (AStruct name fields) = words_of_fields fields
words_of_one (AClass name true items) = 0
words_of_one (AClass name false items) = 1
words_of_one Nothing = 1

abbrev pub words_of_meant : Meant → Option ℕ → ℕ
words_of_meant m None = words_of_one m
words_of_meant m (Some dimension) = dimension

-- the words of a variable of a type, with a dimension or without
abbrev pub words_of : List Declaration → TypeName → Option ℕ → ℕ
words_of ds type dimension = words_of_meant (meant ds type) dimension

-- ---- parts

-- a named part of a struct or of an object's state
pub record Part : Type 0 where
  pub name : List ℕ
  pub type : TypeName
  pub dimension : Option ℕ
  -- where its words begin, and how many there are
  pub offset : ℕ
  pub words : ℕ

abbrev pub parts_of_names : List Declaration → TypeName → ℕ → List FieldName → List Part
parts_of_names ds type offset [] = []
parts_of_names ds type offset (name ∷ names) =
    record { name = name.name.text; type = type; dimension = dimension_of name.dimension; offset = offset; words = words_of ds type (dimension_of name.dimension) }
    ∷ parts_of_names ds type (offset + words_of ds type (dimension_of name.dimension)) names

abbrev pub words_of_parts : List Part → ℕ
words_of_parts = sum_by (λ (part : Part). part.words)

abbrev pub parts_from : List Declaration → ℕ → List Field → List Part
parts_from ds offset [] = []
parts_from ds offset (field ∷ fields) =
    parts_of_names ds field.type_name offset field.names
    ++ parts_from ds (offset + words_of_parts (parts_of_names ds field.type_name offset field.names)) fields

abbrev pub parts_of : List Declaration → List Field → List Part
parts_of ds = parts_from ds 0

abbrev pub part_named : List ℕ → List Part → Option Part
part_named name [] = None
part_named name (part ∷ parts) = if bytes_eq part.name name then Some part else part_named name parts

-- the parts of a struct, and what is none has no parts
abbrev pub parts_of_meant : List Declaration → Meant → List Part
parts_of_meant ds AnInt = []
parts_of_meant ds ABool = []
parts_of_meant ds (AStruct name fields) = parts_of ds fields
parts_of_meant ds (AClass name regular items) = []
parts_of_meant ds Nothing = []

abbrev pub parts_of_type : List Declaration → TypeName → List Part
parts_of_type ds type = parts_of_meant ds (meant ds type)

-- the class of a type that is one
abbrev pub class_of_type : List Declaration → TypeName → Option Class
class_of_type ds (type.Int at) = None
class_of_type ds (type.Bool at) = None
class_of_type ds (type.Named at name) = class_named name.text (classes_of ds)
