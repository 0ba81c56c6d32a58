-- Words and parts, one field after another.
use Rattle.std.proofs.Common.{◌≡◌, ℕ, ◌+◌, List, [], ◌∷◌, ◌++◌, map, append_assoc, add_assoc, arith, refl, ap, sym, ◌∙◌}
use Rattle.std.proofs.lemmas.List.{map-append}
use Rattle.std.proofs.lemmas.List.Sums.{sum_by-cons}
use Rattle.mpl_ast.specs.declared.class.Field.{Field}
use Rattle.mpl_ast.specs.declared.class.FieldName.{FieldName}
use Rattle.mpl_ast.specs.declared.class.Item.{Item}
use Rattle.mpl_ast.specs.declared.class.Item.TheVariants as item
use Rattle.mpl_ast.specs.declared.program.Declaration.{Declaration}
use Rattle.mpl_ast.specs.declared.statement.TypeName.{TypeName}
use Rattle.mpl_mean.specs.Meaning.Layout as layout
use Rattle.mpl_mean.specs.Meaning.Layout.{dimension_of, parts_from, parts_of_names, state_of, words_of, words_of_fields, words_of_parts, words_of_word}
use Rattle.mpl_layout.specs.Bounds.{words_in, words_of_item, words_within}
use Rattle.mpl_layout.specs.Parts.{parts_with, words_of_field}
use Rattle.mpl_layout.specs.SeenParts.{part_seen}
use Rattle.mpl_layout.specs.declared.part.Part.{Part}

pub one_field : (words : ℕ) (field : Field) (fields : List Field) → words + words_of_fields (field ∷ fields) ≡ (words + words_of_field field.names) + words_of_fields fields
one_field words field fields = ap (λ n. words + n) (sum_by-cons _ field fields) ∙ sym (add_assoc words (words_of_field field.names) (words_of_fields fields))

pub one_name : (words : ℕ) (name : FieldName) (names : List FieldName) → words + words_of_field (name ∷ names) ≡ (words + words_of_word (dimension_of name.dimension)) + words_of_field names
one_name words name names = ap (λ n. words + n) (sum_by-cons _ name names) ∙ sym (add_assoc words (words_of_word (dimension_of name.dimension)) (words_of_field names))

-- the offset of what follows a part
behind_part : (ds : List Declaration) (type : TypeName) (offset : ℕ) (name : FieldName) (names : List FieldName)
    → offset + words_of_parts (parts_of_names ds type offset (name ∷ names))
    ≡ (offset + words_of ds type (dimension_of name.dimension)) + words_of_parts (parts_of_names ds type (offset + words_of ds type (dimension_of name.dimension)) names)
behind_part ds type offset name names =
    ap (λ n. offset + n) (sum_by-cons (λ (part : layout.Part). part.words) (record { name = name.name.text; type = type; dimension = dimension_of name.dimension; offset = offset; words = words_of ds type (dimension_of name.dimension) }) (parts_of_names ds type (offset + words_of ds type (dimension_of name.dimension)) names))
    ∙ sym (add_assoc offset (words_of ds type (dimension_of name.dimension)) (words_of_parts (parts_of_names ds type (offset + words_of ds type (dimension_of name.dimension)) names)))

pub name_added : (ds : List Declaration) (type : TypeName) (parts : List Part) (p : Part) (offset : ℕ) (name : FieldName) (others : List FieldName) (fields : List Field)
    → part_seen p ≡ record { name = name.name.text; type = type; dimension = dimension_of name.dimension; offset = offset; words = words_of ds type (dimension_of name.dimension) }
    → parts_with ds type (map part_seen (parts ++ p ∷ [])) (offset + words_of ds type (dimension_of name.dimension)) others fields
    ≡ parts_with ds type (map part_seen parts) offset (name ∷ others) fields
name_added ds type parts p offset name others fields is =
    let next : ℕ = offset + words_of ds type (dimension_of name.dimension) in
    let rest : List layout.Part = parts_of_names ds type next others ++ parts_from ds (next + words_of_parts (parts_of_names ds type next others)) fields in
    ap (λ seen. seen ++ rest) (map-append part_seen parts (p ∷ []))
    ∙ append_assoc (map part_seen parts) (part_seen p ∷ []) rest
    ∙ ap (λ (q : layout.Part). map part_seen parts ++ q ∷ rest) is
    ∙ ap (λ n. map part_seen parts ++ (record { name = name.name.text; type = type; dimension = dimension_of name.dimension; offset = offset; words = words_of ds type (dimension_of name.dimension) })
    ∷ (parts_of_names ds type next others ++ parts_from ds n fields)) (sym (behind_part ds type offset name others))

pub no_name_left : (ds : List Declaration) (type : TypeName) (parts : List layout.Part) (offset : ℕ) (fields : List Field) → parts_with ds type parts offset [] fields ≡ parts ++ parts_from ds offset fields
no_name_left ds type parts offset fields = ap (λ n. parts ++ parts_from ds n fields) (let e : offset + 0 ≡ offset = omega arith in e)

pub field_added : (ds : List Declaration) (parts : List layout.Part) (offset : ℕ) (field : Field) (fields : List Field) → parts_with ds field.type_name parts offset field.names fields ≡ parts ++ parts_from ds offset (field ∷ fields)
field_added ds parts offset field fields = refl

-- ---- words that lie one after another

pub name_within : (ds : List Declaration) (type : TypeName) (name : FieldName) (names : List FieldName) → words_in ds type (name ∷ names) ≡ words_of ds type (dimension_of name.dimension) + words_in ds type names
name_within ds type name names = sum_by-cons (λ (name : FieldName). words_of ds type (dimension_of name.dimension)) name names

pub field_within : (ds : List Declaration) (field : Field) (fields : List Field) → words_within ds (field ∷ fields) ≡ words_in ds field.type_name field.names + words_within ds fields
field_within ds field fields = sum_by-cons (λ (field : Field). words_in ds field.type_name field.names) field fields

pub item_within : (ds : List Declaration) (i : Item) (items : List Item) → words_within ds (state_of (i ∷ items)) ≡ words_of_item ds i + words_within ds (state_of items)
item_within ds (item.OfField at field) items = field_within ds field (state_of items)
item_within ds (item.Member at result name formals body) items = let e : words_within ds (state_of items) ≡ 0 + words_within ds (state_of items) = omega arith in e
item_within ds (item.Select at line entries) items = let e : words_within ds (state_of items) ≡ 0 + words_within ds (state_of items) = omega arith in e
item_within ds (item.Public at) items = let e : words_within ds (state_of items) ≡ 0 + words_within ds (state_of items) = omega arith in e
item_within ds (item.Private at) items = let e : words_within ds (state_of items) ≡ 0 + words_within ds (state_of items) = omega arith in e
item_within ds (item.Empty at) items = let e : words_within ds (state_of items) ≡ 0 + words_within ds (state_of items) = omega arith in e
