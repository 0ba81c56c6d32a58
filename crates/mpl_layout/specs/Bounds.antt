-- What the sizes of a program are within, so that each sum of them has a place in its type.
use Rattle.std.specs.Prelude.{ℕ, ◌≤◌, List, length, sum_by}
use Rattle.mpl_ast.specs.declared.class.Field.{Field}
use Rattle.mpl_ast.specs.declared.class.FieldName.{FieldName}
use Rattle.mpl_ast.specs.declared.class.Item.{Item}
use Rattle.mpl_ast.specs.declared.class.Item.TheVariants as item
use Rattle.mpl_ast.specs.declared.program.Declaration.{Declaration}
use Rattle.mpl_ast.specs.declared.program.Declaration.TheVariants as declaration
use Rattle.mpl_ast.specs.declared.statement.TypeName.{TypeName}
use Rattle.mpl_mean.specs.Laws.Sizes.{Every}
use Rattle.mpl_mean.specs.Meaning.Layout.{Class, classes_of, dimension_of, members_from, words_of, words_of_fields}

-- ---- words of fields, as they lie one after another

abbrev pub words_in : List Declaration → TypeName → List FieldName → ℕ
words_in ds type names = sum_by (λ (name : FieldName). words_of ds type (dimension_of name.dimension)) names

abbrev pub words_within : List Declaration → List Field → ℕ
words_within ds fields = sum_by (λ (field : Field). words_in ds field.type_name field.names) fields

abbrev pub words_of_item : List Declaration → Item → ℕ
words_of_item ds (item.OfField at field) = words_in ds field.type_name field.names
words_of_item ds (item.Member at result name formals body) = 0
words_of_item ds (item.Select at line entries) = 0
words_of_item ds (item.Public at) = 0
words_of_item ds (item.Private at) = 0
words_of_item ds (item.Empty at) = 0

-- ---- bounds

-- a struct's words, as they are written and as they lie
abbrev pub FieldsFit : List Declaration → List Field → Type 0
FieldsFit ds fields = (words_of_fields fields ≤ 256) × (words_within ds fields ≤ 256)

abbrev pub StructFits : List Declaration → Declaration → Type 0
StructFits ds (declaration.Struct at line name fields) = FieldsFit ds fields
StructFits ds (declaration.Class at line kind name items) = Unit {0}
StructFits ds (declaration.Function at result name formals body) = Unit {0}

abbrev pub HasFewMembers : Declaration → Type 0
HasFewMembers (declaration.Struct at line name fields) = Unit {0}
HasFewMembers (declaration.Class at line kind name items) = length (members_from 0 items) ≤ 64
HasFewMembers (declaration.Function at result name formals body) = Unit {0}

abbrev pub StateFits : List Declaration → Class → Type 0
StateFits ds class = words_within ds class.state ≤ 256

pub record Bounded (ds : List Declaration) : Type 0 where
  pub few : length ds ≤ 4096
  pub members : Every HasFewMembers ds
  pub structs : Every (StructFits ds) ds
  pub states : Every (StateFits ds) (classes_of ds)
