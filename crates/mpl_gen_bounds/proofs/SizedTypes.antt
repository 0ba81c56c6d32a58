-- In a program within its bounds the values and parts of each type have few words.
use Rattle.std.proofs.Common.{◌≡◌, ◌≤◌, ℕ, ◌+◌, Bool, true, false, List, [], ◌∷◌, ◌++◌, Option, None, if◌then◌else◌, arith}
use Rattle.std.proofs.lemmas.List.Sums.{sum_by-append, sum_by-cons}
use Rattle.std.specs.Str.{bytes_eq}
use Rattle.mpl_ast.specs.declared.class.Field.{Field}
use Rattle.mpl_ast.specs.declared.class.FieldName.{FieldName}
use Rattle.mpl_ast.specs.declared.program.Declaration.{Declaration}
use Rattle.mpl_ast.specs.declared.program.Declaration.TheVariants as declaration
use Rattle.mpl_ast.specs.declared.statement.TypeName.{TypeName}
use Rattle.mpl_ast.specs.declared.statement.TypeName.TheVariants as type
use Rattle.mpl_mean.specs.Laws.Sizes.{Every}
use Rattle.mpl_mean.specs.Meaning.Layout.{AClass, AStruct, Part, dimension_of, is_regular, meant_by, parts_from, parts_of, parts_of_meant, parts_of_names, parts_of_type, words_of, words_of_parts}
use Rattle.mpl_gen_laws.proofs.SmallSizes.{DeclarationFew, type_few}
use Rattle.mpl_layout.specs.Bounds.{StructFits, words_within}
use Rattle.mpl_layout.proofs.Bounds.{fields_laid}
use Rattle.mpl_gen_bounds.proofs.LaidPieces.{every_both}
use Rattle.mpl_gen_bounds.proofs.SmallScopes.{PartSmall, Sized}

abbrev part_words : Part → ℕ
part_words part = part.words

names_small : (ds : List Declaration) (t : TypeName) (offset : ℕ) (names : List FieldName) → offset + words_of_parts (parts_of_names ds t offset names) ≤ 256 → Every PartSmall (parts_of_names ds t offset names)
names_small ds t offset [] h = tt
names_small ds t offset (name ∷ names) h =
    let words = words_of ds t (dimension_of name.dimension) in
    let rest = parts_of_names ds t (offset + words) names in
    let whole = sum_by-cons part_words (record { name = name.name.text; type = t; dimension = dimension_of name.dimension; offset = offset; words = words }) rest in
    ((omega (arith, h, whole), omega (arith, h, whole)), names_small ds t (offset + words) names (omega (arith, h, whole)))

parts_small : (ds : List Declaration) (offset : ℕ) (fields : List Field) → offset + words_of_parts (parts_from ds offset fields) ≤ 256 → Every PartSmall (parts_from ds offset fields)
parts_small ds offset [] h = tt
parts_small ds offset (field ∷ fields) h =
    let first = parts_of_names ds field.type_name offset field.names in
    let later = offset + words_of_parts first in
    let rest = parts_from ds later fields in
    let whole = sum_by-append part_words first rest in
    every_both PartSmall first rest (names_small ds field.type_name offset field.names (omega (arith, h, whole))) (parts_small ds later fields (omega (arith, h, whole)))

pub fields_small : (ds : List Declaration) (fields : List Field) → words_within ds fields ≤ 256 → Every PartSmall (parts_of ds fields)
fields_small ds fields h = let same = fields_laid ds 0 fields in parts_small ds 0 fields (omega (arith, h, same))

struct_small : (ds : List Declaration) (name : List ℕ) (some : List Declaration) → Every (StructFits ds) some → Every PartSmall (parts_of_meant ds (meant_by name some))
struct_small ds name [] h = tt
struct_small ds name (declaration.Struct at line struct fields ∷ some) h = chosen (bytes_eq struct.text name) (struct_small ds name some h.1) where
  chosen : (b : Bool) → Every PartSmall (parts_of_meant ds (meant_by name some)) → Every PartSmall (parts_of_meant ds (if b then AStruct name fields else meant_by name some))
  chosen true k = fields_small ds fields h.0.1
  chosen false k = k
struct_small ds name (declaration.Class at line kind class items ∷ some) h = chosen (bytes_eq class.text name) (struct_small ds name some h.1) where
  chosen : (b : Bool) → Every PartSmall (parts_of_meant ds (meant_by name some)) → Every PartSmall (parts_of_meant ds (if b then AClass name (is_regular kind) items else meant_by name some))
  chosen true k = tt
  chosen false k = k
struct_small ds name (declaration.Function at result function formals body ∷ some) h = struct_small ds name some h.1

type_parts : (ds : List Declaration) → Every (StructFits ds) ds → (t : TypeName) → Every PartSmall (parts_of_type ds t)
type_parts ds h (type.Int at) = tt
type_parts ds h (type.Bool at) = tt
type_parts ds h (type.Named at name) = struct_small ds name.text ds h

pub types_sized : (ds : List Declaration) → Every (DeclarationFew ds) ds → Every (StructFits ds) ds → Sized ds
types_sized ds few structs = record { words = type_few ds few; parts = type_parts ds structs }
