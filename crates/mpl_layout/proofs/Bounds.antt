-- The sizes of a well typed program are within bounds.
use Rattle.std.proofs.Common.{◌≡◌, ◌≤◌, ◌+◌, ℕ, Bool, true, false, List, [], ◌∷◌, ◌++◌, length, map, Option, None, Some, arith, refl, sym, ap, ◌∙◌}
use Rattle.std.proofs.lemmas.Bool.{eqb-false, leb-true}
use Rattle.std.proofs.lemmas.List.Sums.{sum_by-append, sum_by-cons}
use Rattle.std.specs.Prelude.{nat_le, sum_by, ◌==◌}
use Rattle.mpl_ast.specs.declared.class.Field.{Field}
use Rattle.mpl_ast.specs.declared.class.FieldName.{FieldName}
use Rattle.mpl_ast.specs.declared.class.Item.{Item}
use Rattle.mpl_ast.specs.declared.class.Item.TheVariants as item
use Rattle.mpl_ast.specs.declared.program.Declaration.{Declaration}
use Rattle.mpl_ast.specs.declared.program.Declaration.TheVariants as declaration
use Rattle.mpl_ast.specs.declared.program.Program.{Program}
use Rattle.mpl_ast.specs.declared.statement.TypeName.{TypeName}
use Rattle.mpl_mean.specs.Accepted.{IsAcceptable}
use Rattle.mpl_mean.specs.Laws.Sizes.{Every}
use Rattle.mpl_mean.specs.Meaning.Layout.{AClass, ABool, AnInt, AStruct, Meant, Nothing, Part, classes_from, dimension_of, formals_of, is_regular, meant, members_from, parts_from, parts_of_names, state_of, words_of, words_of_fields, words_of_meant, words_of_parts}
use Rattle.mpl_mean.specs.TypeRules.ProgramNodes.{Before, declaration_nodes, declared_name, entry_nodes, environments, field_names, field_nodes, formal_nodes, inners, item_nodes, nodes_inside, outline_nodes, parts_nodes, result_nodes, surrounding}
use Rattle.mpl_mean.specs.TypeRules.Rules.{is_typed}
use Rattle.mpl_mean.specs.TypeRules.Scopes.{Environment, at_top, in_class}
use Rattle.mpl_mean.specs.TypeRules.SizeRules.{is_not_first_too_many, is_size, state_fits}
use Rattle.mpl_mean.specs.TypeRules.Types.{Declared, InState, InStruct, declared_by, declared_fields, words_of_state, words_of_state_member}
use Rattle.mpl_mean.proofs.Sizes.SizedParts.{struct_words}
use Rattle.mpl_mean.proofs.Sizes.SizedPrograms.{well_program}
use Rattle.mpl_mean.proofs.Sizes.SizedRules.{AllRight, Right, WellDeclaration, WellDeclared, every_left, every_right, typed_right}
use Rattle.mpl_mean.proofs.Sizes.SizedTypes.{WellProgram}
use Rattle.mpl_mean.proofs.Truth.{both_true, not_true}
use Rattle.mpl_layout.specs.Bounds.{Bounded, FieldsFit, HasFewMembers, StateFits, StructFits, words_in, words_within}

-- ---- counts

not_yet : (most before : ℕ) → is_not_first_too_many most before ≡ true → before ≤ most → before + 1 ≤ most
not_yet most before h few = let differ = eqb-false before most (not_true (before == most) h) in omega (arith, differ)

few_members : (environment : Environment) (before : Before) (id : ℕ) (items : List Item) → before.members ≤ 64 → AllRight (item_nodes environment before items) → before.members + length (members_from id items) ≤ 64
few_members environment before id [] few r = omega arith
few_members environment before id (item.OfField at field ∷ items) few r =
    few_members environment (record before { names = before.names ++ field_names field }) id items few (every_right Right (field_nodes environment InState before.names field) _ r.1)
few_members environment before id (item.Member at result name formals body ∷ items) few r =
    let next = not_yet 64 before.members r.0.count few in
    let others = few_members environment (record before { names = before.names ++ name.text ∷ []; members = before.members + 1 }) (id + 1) items next
    (every_right Right (result_nodes result environment ++ formal_nodes environment 0 [] (formals_of formals)) _ r.1.1) in
    omega arith
few_members environment before id (item.Select at line entries ∷ items) few r =
    few_members environment (record before { selects = before.selects + 1 }) id items few (every_right Right (entry_nodes environment 0 entries) _ r.1.1)
few_members environment before id (item.Public at ∷ items) few r = few_members environment before id items few r
few_members environment before id (item.Private at ∷ items) few r = few_members environment before id items few r
few_members environment before id (item.Empty at ∷ items) few r = few_members environment before id items few r

few_declarations : (ds : List Declaration) (before : ℕ) (earlier : List (List ℕ)) (some : List Declaration) → before ≤ 4096 → AllRight (declaration_nodes (at_top ds) before earlier some)
    → before + length some ≤ 4096
few_declarations ds before earlier [] few r = omega arith
few_declarations ds before earlier (d ∷ some) few r =
    let next = not_yet 4096 before r.0.count few in
    let others = few_declarations ds (before + 1) (earlier ++ (declared_name d).text ∷ []) some next (every_right Right (parts_nodes (at_top ds) d) _ r.1.1) in
    omega arith

-- ---- words of states

member_words : (m : Meant) (dimension : Option ℕ) → words_of_meant m dimension ≤ words_of_state_member m dimension
member_words AnInt None = omega arith
member_words AnInt (Some n) = omega arith
member_words ABool None = omega arith
member_words ABool (Some n) = omega arith
member_words (AStruct name fields) None = omega arith
member_words (AStruct name fields) (Some n) = omega arith
member_words (AClass name true items) None = omega arith
member_words (AClass name true items) (Some n) = omega arith
member_words (AClass name false items) None = omega arith
member_words (AClass name false items) (Some n) = omega arith
member_words Nothing None = omega arith
member_words Nothing (Some n) = omega arith

abbrev counted : List Declaration → Declared → ℕ
counted ds d = words_of_state_member (meant ds d.type) (dimension_of d.dimension)

abbrev name_words : List Declaration → TypeName → FieldName → ℕ
name_words ds t name = words_of ds t (dimension_of name.dimension)

abbrev field_words : List Declaration → Field → ℕ
field_words ds field = words_in ds field.type_name field.names

abbrev state_name : TypeName → FieldName → Declared
state_name t name = record { role = InState; name = name.name.text; type = t; dimension = name.dimension }

names_counted : (ds : List Declaration) (t : TypeName) (names : List FieldName) → words_in ds t names ≤ sum_by (counted ds) (map (state_name t) names)
names_counted ds t [] = omega arith
names_counted ds t (name ∷ names) =
    let here = member_words (meant ds t) (dimension_of name.dimension) in
    let others = names_counted ds t names in
    let left = sum_by-cons (name_words ds t) name names in
    let right = sum_by-cons (counted ds) (state_name t name) (map (state_name t) names) in
    omega arith

fields_counted : (ds : List Declaration) (fields : List Field) → words_within ds fields ≤ words_of_state ds fields
fields_counted ds [] = omega arith
fields_counted ds (field ∷ fields) =
    let here = names_counted ds field.type_name field.names in
    let others = fields_counted ds fields in
    let left = sum_by-cons (field_words ds) field fields in
    let right = sum_by-append (counted ds) (declared_by InState field) (declared_fields InState fields) in
    omega arith

state_bound : (ds : List Declaration) (regular : Bool) (items : List Item) → (regular ≡ true → state_of items ≡ []) → state_fits ds regular items ≡ true → words_within ds (state_of items) ≤ 256
state_bound ds true items none h = let e = ap (words_within ds) (none refl) in omega arith
state_bound ds false items none h = let few = leb-true (words_of_state ds (state_of items)) 256 h in let less = fields_counted ds (state_of items) in omega arith

-- ---- words of structs

names_laid : (ds : List Declaration) (t : TypeName) (offset : ℕ) (names : List FieldName) → words_of_parts (parts_of_names ds t offset names) ≡ words_in ds t names
names_laid ds t offset [] = refl
names_laid ds t offset (name ∷ names) =
    let others = names_laid ds t (offset + name_words ds t name) names in
    let part : Part = record { name = name.name.text; type = t; dimension = dimension_of name.dimension; offset = offset; words = name_words ds t name } in
    let left = sum_by-cons (λ (part : Part). part.words) part (parts_of_names ds t (offset + name_words ds t name) names) in
    let right = sum_by-cons (name_words ds t) name names in
    left ∙ ap (λ n. name_words ds t name + n) others ∙ sym right

pub fields_laid : (ds : List Declaration) (offset : ℕ) (fields : List Field) → words_of_parts (parts_from ds offset fields) ≡ words_within ds fields
fields_laid ds offset [] = refl
fields_laid ds offset (field ∷ fields) =
    let first = parts_of_names ds field.type_name offset field.names in
    let later = parts_from ds (offset + words_of_parts first) fields in
    let both : words_of_parts (first ++ later) ≡ words_of_parts first + words_of_parts later = sum_by-append _ first later in
    both ∙ ap (λ n. n + words_of_parts later) (names_laid ds field.type_name offset field.names)
    ∙ ap (λ n. field_words ds field + n) (fields_laid ds (offset + words_of_parts first) fields) ∙ sym (sum_by-cons (field_words ds) field fields)

struct_bound : {ds : List Declaration} → WellProgram ds → (fields : List Field) → Every (WellDeclared ds) (declared_fields InStruct fields) → is_size (words_of_fields fields) ≡ true → FieldsFit ds fields
struct_bound {ds} well fields w h =
    let few = leb-true (words_of_fields fields) 256 (both_true (nat_le 1 (words_of_fields fields)) (nat_le (words_of_fields fields) 256) h).1 in
    let same : words_within ds fields ≡ words_of_fields fields = sym (fields_laid ds 0 fields) ∙ struct_words well 0 fields w in
    (few, omega arith)

-- ---- the whole

each_bounded : {ds : List Declaration} → WellProgram ds → (before : ℕ) (earlier : List (List ℕ)) (number id : ℕ) (some : List Declaration) → Every (WellDeclaration ds) some
    → AllRight (declaration_nodes (at_top ds) before earlier some) → Every HasFewMembers some × Every (StructFits ds) some × Every (StateFits ds) (classes_from number id some)
each_bounded well before earlier number id [] w r = (tt, tt, tt)
each_bounded {ds} well before earlier number id (declaration.Struct at line name fields ∷ some) w r =
    let d = declaration.Struct at line name fields in
    let others = each_bounded well (before + 1) (earlier ++ name.text ∷ []) number id some w.1 (every_right Right (parts_nodes (at_top ds) d) _ r.1.1) in
    ((tt, others.0), (struct_bound well fields w.0 r.0.size, others.1), others.2)
each_bounded {ds} well before earlier number id (declaration.Class at line kind name items ∷ some) w r =
    let d = declaration.Class at line kind name items in
    let others = each_bounded well (before + 1) (earlier ++ name.text ∷ []) (number + 1) (id + length (members_from id items)) some w.1 (every_right Right (parts_nodes (at_top ds) d) _ r.1.1) in
    let members = few_members (in_class (surrounding kind name items) (at_top ds)) (record { names = []; members = 0; selects = 0 }) 0 items (omega arith) (every_left Right (parts_nodes (at_top ds) d) _ r.1.1) in
    ((omega arith, others.0), (tt, others.1), (state_bound ds (is_regular kind) items w.0.2 r.0.size, others.2))
each_bounded {ds} well before earlier number id (declaration.Function at result name formals body ∷ some) w r =
    let d = declaration.Function at result name formals body in
    let others = each_bounded well (before + 1) (earlier ++ name.text ∷ []) number id some w.1 (every_right Right (parts_nodes (at_top ds) d) _ r.1.1) in
    ((tt, others.0), (tt, others.1), others.2)

typed_bounded : (p : Program) → is_typed p ≡ true → Bounded p.declarations
typed_bounded p e =
    let well = well_program p e in
    let outline = every_left Right (outline_nodes p) (nodes_inside (environments p) (inners p)) (typed_right p e) in
    let each = each_bounded well 0 [] 0 0 p.declarations well.each outline.1 in
    let few = few_declarations p.declarations 0 [] p.declarations (omega arith) outline.1 in
    record {
      few = omega arith;
      members = each.0;
      structs = each.1;
      states = each.2;
    }

pub acceptable_bounded : (p : Program) → IsAcceptable p → Bounded p.declarations
acceptable_bounded p h = typed_bounded p h.typed
