-- The least failure in the outline of a program: in its declarations, without their bodies and guards.
use Rattle.std.specs.Prelude.{ℕ, ◌+◌, Bool, true, not, ◌==◌, nat_le, List, [], ◌∷◌, ◌++◌, map, Option, Some, None}
use Rattle.std.specs.List.{list_any}
use Rattle.std.specs.Str.{bytes_eq}
use Rattle.mpl_ast.specs.declared.class.Entry.{Entry}
use Rattle.mpl_ast.specs.declared.class.Field.{Field}
use Rattle.mpl_ast.specs.declared.class.FieldName.{FieldName}
use Rattle.mpl_ast.specs.declared.class.Formal.{Formal}
use Rattle.mpl_ast.specs.declared.class.Item.{Item}
use Rattle.mpl_ast.specs.declared.class.Item.TheVariants as item
use Rattle.mpl_ast.specs.declared.class.ResultType.{ResultType}
use Rattle.mpl_ast.specs.declared.class.ResultType.TheVariants as result
use Rattle.mpl_ast.specs.declared.program.Declaration.{Declaration}
use Rattle.mpl_ast.specs.declared.program.Declaration.TheVariants as declaration
use Rattle.mpl_ast.specs.declared.statement.TypeName.{TypeName}
use Rattle.mpl_mean.specs.Limits.{greatest_priority, most_declarations, most_entries, most_formals, most_members}
use Rattle.mpl_mean.specs.Meaning.Layout.{formals_of, natural}
use Rattle.mpl_mean.specs.TypeRules.ClassRules.{member_may_have}
use Rattle.mpl_mean.specs.TypeRules.NameRules.{class_has_member, is_named_main, main_is_right}
use Rattle.mpl_mean.specs.TypeRules.ProgramNodes.{Before, declaration_at, declared_name, field_names, surrounding}
use Rattle.mpl_mean.specs.TypeRules.Rules.{Failure}
use Rattle.mpl_mean.specs.TypeRules.Scopes.{Surrounding, is_persistent}
use Rattle.mpl_mean.specs.TypeRules.SizeRules.{declaration_fits, is_not_first_too_many}
use Rattle.mpl_mean.specs.TypeRules.StatementNodes.{type_at}
use Rattle.mpl_mean.specs.TypeRules.Types.{AsFormal, AsResult, InState, InStruct, Role}
use Rattle.mpl_types.specs.Internal.Least.{earlier, noted}
use Rattle.mpl_types.specs.Internal.Statements.{dimension_least, type_least}

abbrev pub is_new : List ℕ → List (List ℕ) → Bool
is_new name earlier_names = not (list_any (bytes_eq name) earlier_names)

-- ---- formals and fields

abbrev pub formals_least : List Declaration → ℕ → List (List ℕ) → List Formal → Option Failure
formals_least ds before names [] = None
formals_least ds before names (formal ∷ others) =
    noted (type_at formal.type_name) 8 (is_not_first_too_many most_formals before)
    (noted formal.name.from 2 (is_new formal.name.text names)
    (earlier (type_least ds AsFormal true formal.type_name) (formals_least ds (before + 1) (names ++ formal.name.text ∷ []) others)))

abbrev pub result_least : List Declaration → ResultType → Option Failure
result_least ds (result.Void at) = None
result_least ds (result.Typed at type) = type_least ds AsResult true type

abbrev pub field_names_least : TypeName → List (List ℕ) → List FieldName → Option Failure
field_names_least type names [] = None
field_names_least type names (field ∷ others) =
    noted field.name.from 2 (is_new field.name.text names) (earlier (dimension_least type field.dimension) (field_names_least type (names ++ field.name.text ∷ []) others))

abbrev pub names_of : List FieldName → List (List ℕ)
names_of = map (λ (name : FieldName). name.name.text)

abbrev pub field_least : List Declaration → Role → List (List ℕ) → Field → Option Failure
field_least ds role names field = earlier (type_least ds role true field.type_name) (field_names_least field.type_name names field.names)

abbrev pub fields_least : List Declaration → List (List ℕ) → List Field → Option Failure
fields_least ds names [] = None
fields_least ds names (field ∷ others) = earlier (field_least ds InStruct names field) (fields_least ds (names ++ field_names field) others)

-- ---- classes

abbrev pub entry_least : Surrounding → ℕ → Entry → Option Failure → Option Failure
entry_least class before entry rest =
    noted entry.at.span.from 8 (is_not_first_too_many most_entries before)
    (noted entry.priority.from 10 (nat_le (natural entry.priority.value) greatest_priority)
    (noted entry.member.from 1 (class_has_member entry.member.text (Some class)) rest))

abbrev pub entries_least : Surrounding → ℕ → List Entry → Option Failure
entries_least class before [] = None
entries_least class before (entry ∷ others) = entry_least class before entry (entries_least class (before + 1) others)

abbrev pub item_least : List Declaration → Surrounding → Before → Item → Option Failure
item_least ds class before (item.OfField at field) = noted at.span.from 9 (is_persistent (Some class)) (field_least ds InState before.names field)
item_least ds class before (item.Member at result name formals body) =
    noted at.span.from 8 (is_not_first_too_many most_members before.members)
    (noted at.span.from 25 (member_may_have (is_persistent (Some class)) result)
    (noted name.from 2 (is_new name.text before.names) (earlier (result_least ds result) (formals_least ds 0 [] (formals_of formals)))))
item_least ds class before (item.Select at line entries) =
    noted at.span.from 9 (is_persistent (Some class)) (noted at.span.from 10 (before.selects == 0) (entries_least class 0 entries))
item_least ds class before (item.Public at) = None
item_least ds class before (item.Private at) = None
item_least ds class before (item.Empty at) = None

-- what stands before the item behind this one
abbrev pub with_item : Before → Item → Before
with_item before (item.OfField at field) = record before { names = before.names ++ field_names field }
with_item before (item.Member at result name formals body) = record before { names = before.names ++ name.text ∷ []; members = before.members + 1 }
with_item before (item.Select at line entries) = record before { selects = before.selects + 1 }
with_item before (item.Public at) = before
with_item before (item.Private at) = before
with_item before (item.Empty at) = before

abbrev pub items_least : List Declaration → Surrounding → Before → List Item → Option Failure
items_least ds class before [] = None
items_least ds class before (item ∷ others) = earlier (item_least ds class before item) (items_least ds class (with_item before item) others)

abbrev pub nothing_before : Before
nothing_before = record { names = []; members = 0; selects = 0 }

-- ---- declarations

abbrev pub parts_least : List Declaration → Declaration → Option Failure
parts_least ds (declaration.Struct at line name fields) = fields_least ds [] fields
parts_least ds (declaration.Class at line kind name items) = items_least ds (surrounding kind name items) nothing_before items
parts_least ds (declaration.Function at result name formals body) = earlier (type_least ds AsResult true result) (formals_least ds 0 [] (formals_of formals))

abbrev pub declaration_least : List Declaration → ℕ → List (List ℕ) → Declaration → Option Failure
declaration_least ds before names d =
    noted (declaration_at d) 3 (main_is_right (is_named_main d) d)
    (noted (declaration_at d) 6 (declaration_fits ds d)
    (noted (declaration_at d) 8 (is_not_first_too_many most_declarations before)
    (noted (declared_name d).from 2 (is_new (declared_name d).text names) (parts_least ds d))))

abbrev pub declarations_least : List Declaration → ℕ → List (List ℕ) → List Declaration → Option Failure
declarations_least ds before names [] = None
declarations_least ds before names (d ∷ others) =
    earlier (declaration_least ds before names d) (declarations_least ds (before + 1) (names ++ (declared_name d).text ∷ []) others)

abbrev pub outline_least : List Declaration → Option Failure
outline_least ds = noted 0 3 (list_any is_named_main ds) (declarations_least ds 0 [] ds)
