-- What the types of a program stand for, and what is declared with them.
use Rattle.std.specs.Prelude.{ℕ, Bool, true, false, List, [], ◌∷◌, map, flat_map, sum_by, Option, Some, None, if◌then◌else◌}
use Rattle.std.specs.Option.{option_map}
use Rattle.std.specs.Str.{bytes_eq}
use Rattle.mpl_ast.specs.declared.class.Field.{Field}
use Rattle.mpl_ast.specs.declared.class.FieldName.{FieldName}
use Rattle.mpl_ast.specs.declared.class.Formal.{Formal}
use Rattle.mpl_ast.specs.declared.class.Item.{Item}
use Rattle.mpl_ast.specs.declared.class.ResultType.{ResultType}
use Rattle.mpl_ast.specs.declared.class.ResultType.TheVariants as result
use Rattle.mpl_ast.specs.declared.program.Declaration.{Declaration}
use Rattle.mpl_ast.specs.declared.statement.Dimension.{Dimension}
use Rattle.mpl_ast.specs.declared.statement.TypeName.{TypeName}
use Rattle.mpl_ast.specs.declared.statement.TypeName.TheVariants as type
use Rattle.mpl_mean.specs.Meaning.Layout.{dimension_of, words_of_word, words_of_fields}
pub use Rattle.mpl_mean.specs.Meaning.Layout.{Meant, AnInt, ABool, AStruct, AClass, Nothing, meant_by, meant, words_of_meant}

-- ---- the types of values

pub data ValueType : Type 0 where
  OfInt : ValueType
  OfBool : ValueType
  OfStruct : (name : List ℕ) → ValueType
  -- the object of a persistent class
  OfClass : (name : List ℕ) → ValueType

abbrev pub same_type : ValueType → ValueType → Bool
same_type OfInt OfInt = true
same_type OfBool OfBool = true
same_type (OfStruct a) (OfStruct b) = bytes_eq a b
same_type (OfClass a) (OfClass b) = bytes_eq a b
same_type a b = false

abbrev pub is_int : ValueType → Bool
is_int = same_type OfInt

abbrev pub is_bool : ValueType → Bool
is_bool = same_type OfBool

-- Types that are compared agree where they are the same, and where one of them isn't there.
abbrev pub agree : Option ValueType → Option ValueType → Bool
agree None b = true
agree (Some a) None = true
agree (Some a) (Some b) = same_type a b

-- ---- where a type is written

pub data Role : Type 0 where
  InState : Role
  InStruct : Role
  AsFormal : Role
  AsResult : Role
  AsLocal : Role

abbrev pub is_field : Role → Bool
is_field InStruct = true
is_field role = false

abbrev pub is_local : Role → Bool
is_local AsLocal = true
is_local role = false

-- The type of a value with a type that is written there. It has none where that may not stand there.
abbrev pub value_type : Role → Meant → Option ValueType
value_type role AnInt = Some OfInt
value_type role ABool = Some OfBool
value_type role (AStruct name fields) = if is_field role then None else Some (OfStruct name)
value_type role (AClass name true items) = None
value_type role (AClass name false items) = Some (OfClass name)
value_type role Nothing = None

abbrev pub result_type : List Declaration → ResultType → Option ValueType
result_type ds (result.Void at) = None
result_type ds (result.Typed at type) = value_type AsResult (meant ds type)

-- ---- variables and fields

pub record Declared : Type 0 where
  pub role : Role
  pub name : List ℕ
  pub type : TypeName
  pub dimension : Option Dimension

abbrev pub names : List Declared → List (List ℕ)
names = map (λ (d : Declared). d.name)

-- the first of that name
abbrev pub first_named : List ℕ → List Declared → Option Declared
first_named name [] = None
first_named name (d ∷ others) = if bytes_eq d.name name then Some d else first_named name others

abbrev pub declared_by : Role → Field → List Declared
declared_by role field = map (λ (name : FieldName). record { role = role; name = name.name.text; type = field.type_name; dimension = name.dimension }) field.names

abbrev pub declared_fields : Role → List Field → List Declared
declared_fields role fields = flat_map (declared_by role) fields

abbrev pub declared_formals : List Formal → List Declared
declared_formals formals = map (λ (formal : Formal). record { role = AsFormal; name = formal.name.text; type = formal.type_name; dimension = None }) formals

-- what a place is: a value, an array of values, or a local of a regular class
pub data Shape : Type 0 where
  OneValue : ValueType → Shape
  AnArray : ValueType → Shape
  ARegular : List Item → Shape

abbrev pub shape_with : Option Dimension → ValueType → Shape
shape_with None type = OneValue type
shape_with (Some dimension) type = AnArray type

abbrev pub shape_of_meant : Role → Option Dimension → Meant → Option Shape
shape_of_meant role dimension (AClass name true items) = if is_local role then Some (ARegular items) else None
shape_of_meant role dimension m = option_map (shape_with dimension) (value_type role m)

-- A variable or field whose type isn't known or may not stand where it is written has no shape. A local of a regular
-- class has one, with a dimension too.
abbrev pub shape_of : List Declaration → Option Declared → Option Shape
shape_of ds None = None
shape_of ds (Some d) = shape_of_meant d.role d.dimension (meant ds d.type)

-- ---- words

-- formals and locals
abbrev pub words_of_variables : List Declaration → List Declared → ℕ
words_of_variables ds variables = sum_by (λ (d : Declared). words_of_meant (meant ds d.type) (dimension_of d.dimension)) variables

-- a state member: a type that may not stand there counts one word for each element too
abbrev pub words_of_state_member : Meant → Option ℕ → ℕ
words_of_state_member (AStruct name fields) None = words_of_fields fields
words_of_state_member m dimension = words_of_word dimension

abbrev pub words_of_state : List Declaration → List Field → ℕ
words_of_state ds fields = sum_by (λ (d : Declared). words_of_state_member (meant ds d.type) (dimension_of d.dimension)) (declared_fields InState fields)
