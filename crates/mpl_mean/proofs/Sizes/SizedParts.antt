-- The parts of a struct or of a state, and the fields from which they come.
use Rattle.std.proofs.Common.{◌≡◌, ℕ, ◌+◌, ◌≤◌, Bool, true, false, List, [], ◌∷◌, ◌++◌, map, Option, Some, None, if◌then◌else◌, refl, sym, ap, ◌∙◌, arith}
use Rattle.std.proofs.lemmas.List.Sums.{sum_by-append, sum_by-cons}
use Rattle.std.specs.Prelude.{sum_by}
use Rattle.std.specs.Str.{bytes_eq}
use Rattle.mpl_ast.specs.declared.class.Field.{Field}
use Rattle.mpl_ast.specs.declared.class.FieldName.{FieldName}
use Rattle.mpl_ast.specs.declared.program.Declaration.{Declaration}
use Rattle.mpl_ast.specs.declared.statement.TypeName.{TypeName}
use Rattle.mpl_mean.specs.Meaning.Layout.{Part, dimension_of, part_named, parts_from, parts_of_names, words_of, words_of_fields, words_of_parts, words_of_word}
use Rattle.mpl_mean.specs.Laws.Sizes.{Every}
use Rattle.mpl_mean.specs.TypeRules.Types.{Declared, InStruct, Role, declared_by, declared_fields, first_named}
use Rattle.mpl_mean.proofs.Sizes.SizedRules.{WellDeclared, every_left, every_right}
use Rattle.mpl_mean.proofs.Sizes.SizedTypes.{WellProgram, field_words}

abbrev part_at : List Declaration → TypeName → ℕ → FieldName → Part
part_at ds type offset n = record { name = n.name.text; type = type; dimension = dimension_of n.dimension; offset = offset; words = words_of ds type (dimension_of n.dimension) }

abbrev part_words : Part → ℕ
part_words part = part.words

abbrev name_words : FieldName → ℕ
name_words name = words_of_word (dimension_of name.dimension)

-- a part of what is declared, among so many words
pub record PartOf (ds : List Declaration) (total : ℕ) (d : Declared) (part : Part) : Type 0 where
  pub type : part.type ≡ d.type
  pub words : part.words ≡ words_of ds d.type (dimension_of d.dimension)
  pub inside : part.offset + part.words ≤ total
  pub well : WellDeclared ds d

abbrev pub PartFits : List Declaration → ℕ → Option Declared → Option Part → Type 0
PartFits ds total None None = Unit {0}
PartFits ds total None (Some part) = ⊥
PartFits ds total (Some d) None = ⊥
PartFits ds total (Some d) (Some part) = PartOf ds total d part

abbrev declared_names : Role → TypeName → List FieldName → List Declared
declared_names role type names = map (λ (name : FieldName). record { role = role; name = name.name.text; type = type; dimension = name.dimension }) names

chosen_part : (ds : List Declaration) (total : ℕ) (b : Bool) (d : Declared) (part : Part) (ds' : Option Declared) (ps : Option Part) → PartOf ds total d part → PartFits ds total ds' ps
    → PartFits ds total (if b then Some d else ds') (if b then Some part else ps)
chosen_part ds total true d part ds' ps h k = h
chosen_part ds total false d part ds' ps h k = k

names_fit : (ds : List Declaration) (total : ℕ) (name : List ℕ) (role : Role) (type : TypeName) (offset : ℕ) (names : List FieldName) (others : List Declared) (parts : List Part)
    → Every (WellDeclared ds) (declared_names role type names) → offset + words_of_parts (parts_of_names ds type offset names) ≤ total
    → PartFits ds total (first_named name others) (part_named name parts)
    → PartFits ds total (first_named name (declared_names role type names ++ others)) (part_named name (parts_of_names ds type offset names ++ parts))
names_fit ds total name role type offset [] others parts w h k = k
names_fit ds total name role type offset (n ∷ names) others parts w h k =
    let words = words_of ds type (dimension_of n.dimension) in
    let sum : words_of_parts (parts_of_names ds type offset (n ∷ names)) ≡ words + words_of_parts (parts_of_names ds type (offset + words) names) = sum_by-cons part_words (part_at ds type offset n) (parts_of_names ds type (offset + words) names) in
    chosen_part ds total (bytes_eq n.name.text name) _ _ _ _ (record { type = refl; words = refl; inside = omega arith; well = w.0 })
    (names_fit ds total name role type (offset + words) names others parts w.1 (omega arith) k)

pub parts_fit : (ds : List Declaration) (total : ℕ) (name : List ℕ) (role : Role) (offset : ℕ) (fields : List Field) → Every (WellDeclared ds) (declared_fields role fields)
    → offset + words_of_parts (parts_from ds offset fields) ≤ total → PartFits ds total (first_named name (declared_fields role fields)) (part_named name (parts_from ds offset fields))
parts_fit ds total name role offset [] w h = tt
parts_fit ds total name role offset (field ∷ fields) w h =
    let environment = parts_of_names ds field.type_name offset field.names in
    let later = parts_from ds (offset + words_of_parts environment) fields in
    let sum : words_of_parts (environment ++ later) ≡ words_of_parts environment + words_of_parts later = sum_by-append _ environment later in
    names_fit ds total name role field.type_name offset field.names (declared_fields role fields) later (every_left (WellDeclared ds) (declared_by role field) (declared_fields role fields) w)
    (omega arith)
    (parts_fit ds total name role (offset + words_of_parts environment) fields (every_right (WellDeclared ds) (declared_by role field) (declared_fields role fields) w) (omega arith))

-- ---- the words of a struct

names_words : {ds : List Declaration} → WellProgram ds → (type : TypeName) (offset : ℕ) (names : List FieldName) → Every (WellDeclared ds) (declared_names InStruct type names)
    → words_of_parts (parts_of_names ds type offset names) ≡ sum_by (λ (name : FieldName). words_of_word (dimension_of name.dimension)) names
names_words well type offset [] w = refl
names_words {ds} well type offset (n ∷ names) w =
    let first = field_words well n.name.text type n.dimension w.0 in
    let others = names_words well type (offset + words_of ds type (dimension_of n.dimension)) names w.1 in
    let later = parts_of_names ds type (offset + words_of ds type (dimension_of n.dimension)) names in
    sum_by-cons part_words (part_at ds type offset n) later ∙ (ap (λ k. k + words_of_parts later) first ∙ (ap (λ k. name_words n + k) others ∙ sym (sum_by-cons name_words n names)))

pub struct_words : {ds : List Declaration} → WellProgram ds → (offset : ℕ) (fields : List Field) → Every (WellDeclared ds) (declared_fields InStruct fields)
    → words_of_parts (parts_from ds offset fields) ≡ words_of_fields fields
struct_words well offset [] w = refl
struct_words {ds} well offset (field ∷ fields) w =
    let environment = parts_of_names ds field.type_name offset field.names in
    let later = parts_from ds (offset + words_of_parts environment) fields in
    let sum : words_of_parts (environment ++ later) ≡ words_of_parts environment + words_of_parts later = sum_by-append _ environment later in
    let first = names_words well field.type_name offset field.names (every_left (WellDeclared ds) (declared_by InStruct field) (declared_fields InStruct fields) w) in
    let others = struct_words well (offset + words_of_parts environment) fields (every_right (WellDeclared ds) (declared_by InStruct field) (declared_fields InStruct fields) w) in
    sum ∙ (ap (λ k. k + words_of_parts later) first ∙ (ap (λ k. sum_by name_words field.names + k) others ∙ sym (sum_by-cons (λ (field : Field). sum_by name_words field.names) field fields)))
