-- The least failure in the outline of a program is that at its nodes.
use Rattle.std.proofs.Common.{◌≡◌, ℕ, ◌+◌, ◌==◌, Bool, true, List, [], ◌∷◌, ◌++◌, Option, Some, None, refl, sym, ap, ◌∙◌}
use Rattle.std.specs.List.{list_any}
use Rattle.std.specs.Prelude.{nat_le}
use Rattle.mpl_ast.specs.declared.class.Entry.{Entry}
use Rattle.mpl_ast.specs.declared.class.Field.{Field}
use Rattle.mpl_ast.specs.declared.class.FieldName.{FieldName}
use Rattle.mpl_ast.specs.declared.class.Formal.{Formal}
use Rattle.mpl_ast.specs.declared.class.Item.{Item}
use Rattle.mpl_ast.specs.declared.class.Item.TheVariants as item
use Rattle.mpl_ast.specs.declared.class.ResultType.{ResultType}
use Rattle.mpl_ast.specs.declared.class.ResultType.TheVariants as result
use Rattle.mpl_ast.specs.declared.program.Declaration.{Declaration}
use Rattle.mpl_ast.specs.declared.program.Declaration.TheVariants as declaration
use Rattle.mpl_ast.specs.declared.program.Program.{Program}
use Rattle.mpl_ast.specs.declared.statement.Dimension.{Dimension}
use Rattle.mpl_ast.specs.declared.statement.TypeName.{TypeName}
use Rattle.mpl_mean.specs.Limits.{greatest_priority, most_declarations, most_entries, most_formals, most_members}
use Rattle.mpl_mean.specs.Meaning.Layout.{formals_of, natural}
use Rattle.mpl_mean.specs.TypeRules.ClassRules.{member_may_have}
use Rattle.mpl_mean.specs.TypeRules.NameRules.{class_has_member, is_named_main, main_is_right}
use Rattle.mpl_mean.specs.TypeRules.Nodes.{Located}
use Rattle.mpl_mean.specs.TypeRules.ProgramNodes.{Before, declaration_at, declaration_nodes, declared_name, entry_nodes, field_name_nodes, field_names, field_nodes, fields_nodes, formal_nodes, item_nodes, outline_nodes, parts_nodes, result_nodes, surrounding}
use Rattle.mpl_mean.specs.TypeRules.Rules.{Failure}
use Rattle.mpl_mean.specs.TypeRules.Scopes.{Environment, Surrounding, at_top, in_class, is_persistent}
use Rattle.mpl_mean.specs.TypeRules.SizeRules.{declaration_fits, is_not_first_too_many}
use Rattle.mpl_mean.specs.TypeRules.StatementNodes.{dimension_nodes, type_at, type_nodes}
use Rattle.mpl_mean.specs.TypeRules.Types.{AsFormal, AsResult, InState, InStruct, Role}
use Rattle.mpl_types.specs.Internal.Least.{earlier, noted, least_of}
use Rattle.mpl_types.specs.Internal.Outlines.{declarations_least, entries_least, field_least, field_names_least, fields_least, formals_least, is_new, items_least, nothing_before, outline_least, parts_least, result_least, with_item}
use Rattle.mpl_types.specs.Internal.Statements.{dimension_least}
use Rattle.mpl_types.proofs.ExpressionLemmas.{joined}
use Rattle.mpl_types.proofs.LeastLemmas.{noted_earlier}

-- a rule at the first of some nodes, before those of the others
late : (at rule : ℕ) (holds : Bool) (a b c : Option Failure) → earlier a b ≡ c → earlier (noted at rule holds a) b ≡ noted at rule holds c
late at rule holds a b c e = sym (noted_earlier at rule holds a b) ∙ ap (noted at rule holds) e

three : (xs ys zs : List Located) (a b c : Option Failure) → a ≡ least_of xs → b ≡ least_of ys → c ≡ least_of zs → earlier (earlier a b) c ≡ least_of (xs ++ ys ++ zs)
three xs ys zs a b c h k l = joined (xs ++ ys) zs (earlier a b) c (joined xs ys a b h k) l

-- ---- formals and fields

formals_are : (environment : Environment) (before : ℕ) (names : List (List ℕ)) (formals : List Formal)
    → formals_least environment.declarations before names formals ≡ least_of (formal_nodes environment before names formals)
formals_are environment before names [] = refl
formals_are environment before names (formal ∷ others) =
    ap (λ rest. noted (type_at formal.type_name) 8 (is_not_first_too_many most_formals before) (noted formal.name.from 2 (is_new formal.name.text names) rest))
    (joined (type_nodes AsFormal true formal.type_name environment) (formal_nodes environment (before + 1) (names ++ formal.name.text ∷ []) others) _ _ refl
    (formals_are environment (before + 1) (names ++ formal.name.text ∷ []) others))

result_is : (environment : Environment) (r : ResultType) → result_least environment.declarations r ≡ least_of (result_nodes r environment)
result_is environment (result.Void at) = refl
result_is environment (result.Typed at type) = refl

dimension_is : (environment : Environment) (type : TypeName) (dimension : Option Dimension) → dimension_least type dimension ≡ least_of (dimension_nodes environment type dimension)
dimension_is environment type None = refl
dimension_is environment type (Some dimension) = refl

field_names_are : (environment : Environment) (type : TypeName) (names : List (List ℕ)) (fields : List FieldName)
    → field_names_least type names fields ≡ least_of (field_name_nodes environment type names fields)
field_names_are environment type names [] = refl
field_names_are environment type names (field ∷ others) =
    ap (noted field.name.from 2 (is_new field.name.text names))
    (joined (dimension_nodes environment type field.dimension) (field_name_nodes environment type (names ++ field.name.text ∷ []) others) _ _
    (dimension_is environment type field.dimension) (field_names_are environment type (names ++ field.name.text ∷ []) others))

field_is : (environment : Environment) (role : Role) (names : List (List ℕ)) (field : Field)
    → field_least environment.declarations role names field ≡ least_of (field_nodes environment role names field)
field_is environment role names field =
    joined (type_nodes role true field.type_name environment) (field_name_nodes environment field.type_name names field.names) _ _ refl
    (field_names_are environment field.type_name names field.names)

fields_are : (environment : Environment) (names : List (List ℕ)) (fields : List Field) → fields_least environment.declarations names fields ≡ least_of (fields_nodes environment names fields)
fields_are environment names [] = refl
fields_are environment names (field ∷ others) =
    joined (field_nodes environment InStruct names field) (fields_nodes environment (names ++ field_names field) others) _ _
    (field_is environment InStruct names field) (fields_are environment (names ++ field_names field) others)

-- ---- classes

module _ (ds : List Declaration) (class : Surrounding) where
  abbrev inside : Environment
  inside = in_class class (at_top ds)

  entries_are : (before : ℕ) (entries : List Entry) → entries_least class before entries ≡ least_of (entry_nodes inside before entries)
  entries_are before [] = refl
  entries_are before (entry ∷ others) =
      ap (λ rest. noted entry.at.span.from 8 (is_not_first_too_many most_entries before)
      (noted entry.priority.from 10 (nat_le (natural entry.priority.value) greatest_priority)
      (noted entry.member.from 1 (class_has_member entry.member.text (Some class)) rest)))
      (entries_are (before + 1) others)

  pub items_are : (before : Before) (items : List Item) → items_least ds class before items ≡ least_of (item_nodes inside before items)
  items_are before [] = refl
  items_are before (item.OfField at field ∷ others) =
      late at.span.from 9 (is_persistent (Some class)) _ _ _
      (joined (field_nodes inside InState before.names field) (item_nodes inside (with_item before (item.OfField at field)) others) _ _
      (field_is inside InState before.names field) (items_are (with_item before (item.OfField at field)) others))
  items_are before (item.Member at result name formals body ∷ others) =
      late at.span.from 8 (is_not_first_too_many most_members before.members) _ _ _
      (late at.span.from 25 (member_may_have (is_persistent (Some class)) result) _ _ _
      (late name.from 2 (is_new name.text before.names) _ _ _
      (three (result_nodes result inside) (formal_nodes inside 0 [] (formals_of formals)) (item_nodes inside (with_item before (item.Member at result name formals body)) others) _ _ _
      (result_is inside result) (formals_are inside 0 [] (formals_of formals)) (items_are (with_item before (item.Member at result name formals body)) others))))
  items_are before (item.Select at line entries ∷ others) =
      late at.span.from 9 (is_persistent (Some class)) _ _ _
      (late at.span.from 10 (before.selects == 0) _ _ _
      (joined (entry_nodes inside 0 entries) (item_nodes inside (with_item before (item.Select at line entries)) others) _ _
      (entries_are 0 entries) (items_are (with_item before (item.Select at line entries)) others)))
  items_are before (item.Public at ∷ others) = items_are before others
  items_are before (item.Private at ∷ others) = items_are before others
  items_are before (item.Empty at ∷ others) = items_are before others

-- ---- declarations

parts_are : (ds : List Declaration) (d : Declaration) → parts_least ds d ≡ least_of (parts_nodes (at_top ds) d)
parts_are ds (declaration.Struct at line name fields) = fields_are (at_top ds) [] fields
parts_are ds (declaration.Class at line kind name items) = items_are ds (surrounding kind name items) nothing_before items
parts_are ds (declaration.Function at result name formals body) =
    joined (type_nodes AsResult true result (at_top ds)) (formal_nodes (at_top ds) 0 [] (formals_of formals)) _ _ refl (formals_are (at_top ds) 0 [] (formals_of formals))

declarations_are : (ds : List Declaration) (before : ℕ) (names : List (List ℕ)) (others : List Declaration)
    → declarations_least ds before names others ≡ least_of (declaration_nodes (at_top ds) before names others)
declarations_are ds before names [] = refl
declarations_are ds before names (d ∷ others) =
    late (declaration_at d) 3 (main_is_right (is_named_main d) d) _ _ _
    (late (declaration_at d) 6 (declaration_fits ds d) _ _ _
    (late (declaration_at d) 8 (is_not_first_too_many most_declarations before) _ _ _
    (late (declared_name d).from 2 (is_new (declared_name d).text names) _ _ _
    (joined (parts_nodes (at_top ds) d) (declaration_nodes (at_top ds) (before + 1) (names ++ (declared_name d).text ∷ []) others) _ _
    (parts_are ds d) (declarations_are ds (before + 1) (names ++ (declared_name d).text ∷ []) others)))))

pub outline_is : (p : Program) → outline_least p.declarations ≡ least_of (outline_nodes p)
outline_is p = ap (noted 0 3 (list_any is_named_main p.declarations)) (declarations_are p.declarations 0 [] p.declarations)
