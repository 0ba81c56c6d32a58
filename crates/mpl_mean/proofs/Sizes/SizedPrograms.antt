-- In a program in which no rule fails the declarations fit.
use Rattle.std.proofs.Common.{◌≡◌, ℕ, ◌+◌, Bool, true, false, not, ◌&&◌, List, [], ◌∷◌, ◌++◌, map, Option, Some, None, refl}
use Rattle.std.specs.List.{list_any}
use Rattle.std.specs.Prelude.{flat_map, is_some}
use Rattle.std.specs.Str.{bytes_eq}
use Rattle.mpl_ast.specs.declared.class.Entry.{Entry}
use Rattle.mpl_ast.specs.declared.class.Field.{Field}
use Rattle.mpl_ast.specs.declared.class.FieldName.{FieldName}
use Rattle.mpl_ast.specs.declared.class.Formal.{Formal}
use Rattle.mpl_ast.specs.declared.class.Item.{Item}
use Rattle.mpl_ast.specs.declared.class.Item.TheVariants as item
use Rattle.mpl_ast.specs.declared.class.ResultType.{ResultType}
use Rattle.mpl_ast.specs.declared.class.ResultType.TheVariants.{Void, Typed}
use Rattle.mpl_ast.specs.declared.program.Declaration.{Declaration}
use Rattle.mpl_ast.specs.declared.program.Declaration.TheVariants as declaration
use Rattle.mpl_ast.specs.declared.program.Program.{Program}
use Rattle.mpl_ast.specs.declared.statement.Dimension.{Dimension}
use Rattle.mpl_ast.specs.declared.statement.TypeName.{TypeName}
use Rattle.mpl_mean.specs.Meaning.Layout.{formals_of, natural, state_of}
use Rattle.mpl_mean.specs.TypeRules.NameRules.{are_no_formals, is_int_type, is_int_without_formals, is_meant, main_is_right}
use Rattle.mpl_mean.specs.TypeRules.Nodes.{Located, place}
use Rattle.mpl_mean.specs.TypeRules.Nodes as node
use Rattle.mpl_mean.specs.TypeRules.ProgramNodes.{Before, Inside, declaration_at, declaration_nodes, declared_name, entry_nodes, field_name_nodes, field_names, field_nodes, fields_nodes, formal_nodes, guards_of_entry, environments, inner_nodes, inners, inside_declaration, inside_item, insides, item_nodes, nodes_inside, outline_nodes, parts_nodes, result_nodes, surrounding}
use Rattle.mpl_mean.specs.TypeRules.Rules.{is_typed}
use Rattle.mpl_mean.specs.TypeRules.Scopes.{Environment, Surrounding, at_top, in_class, is_main}
use Rattle.mpl_mean.specs.TypeRules.SizeRules.{is_element, is_size, meant_may_stand}
use Rattle.mpl_mean.specs.Laws.Sizes.{Every}
use Rattle.mpl_mean.specs.TypeRules.StatementNodes.{dimension_nodes}
use Rattle.mpl_mean.specs.TypeRules.Types.{AClass, ABool, AnInt, AStruct, AsFormal, AsResult, InState, InStruct, Meant, Nothing, Role, declared_by, declared_fields, declared_formals, meant, shape_of_meant, value_type}
use Rattle.mpl_mean.proofs.Sizes.SizedClasses.{NamesDiffer}
use Rattle.mpl_mean.proofs.Sizes.SizedRules.{AllRight, IsElement, Right, WellDeclaration, WellDeclared, WellItem, WellMain, WellResult, every_left, every_right, typed_right}
use Rattle.mpl_mean.proofs.Sizes.SizedStores.{every_append}
use Rattle.mpl_mean.proofs.Sizes.SizedTypes.{WellProgram}
use Rattle.mpl_mean.proofs.Truth.{both_true, not_true}

-- ---- types that are written

field_shape : (dimension : Option Dimension) (m : Meant) → is_meant m ≡ true → meant_may_stand InStruct true m ≡ true → is_some (shape_of_meant InStruct dimension m) ≡ true
field_shape dimension AnInt h i = refl
field_shape dimension ABool h i = refl
field_shape dimension (AStruct n fields) h i = absurd cc
field_shape dimension (AClass n true items) h i = absurd cc
field_shape dimension (AClass n false items) h i = refl
field_shape dimension Nothing h i = absurd cc

state_shape : (dimension : Option Dimension) (m : Meant) → is_meant m ≡ true → meant_may_stand InState true m ≡ true → is_some (shape_of_meant InState dimension m) ≡ true
state_shape dimension AnInt h i = refl
state_shape dimension ABool h i = refl
state_shape dimension (AStruct n fields) h i = refl
state_shape dimension (AClass n true items) h i = absurd cc
state_shape dimension (AClass n false items) h i = refl
state_shape dimension Nothing h i = absurd cc

formal_shape : (m : Meant) → is_meant m ≡ true → meant_may_stand AsFormal true m ≡ true → is_some (shape_of_meant AsFormal None m) ≡ true
formal_shape AnInt h i = refl
formal_shape ABool h i = refl
formal_shape (AStruct n fields) h i = refl
formal_shape (AClass n true items) h i = absurd cc
formal_shape (AClass n false items) h i = refl
formal_shape Nothing h i = absurd cc

result_value : (m : Meant) → is_meant m ≡ true → meant_may_stand AsResult true m ≡ true → is_some (value_type AsResult m) ≡ true
result_value AnInt h i = refl
result_value ABool h i = refl
result_value (AStruct n fields) h i = refl
result_value (AClass n true items) h i = absurd cc
result_value (AClass n false items) h i = refl
result_value Nothing h i = absurd cc

dimension_element : (environment : Environment) (t : TypeName) (dimension : Option Dimension) → AllRight (dimension_nodes environment t dimension) → IsElement dimension t
dimension_element environment t None r = tt
dimension_element environment t (Some dimension) r = (both_true (is_size (natural dimension.number.value)) (is_element t) r.0.dimension).1

-- ---- fields and formals

-- what is shown of a type is shown of each name with it
names_well : (environment : Environment) (role : Role) (t : TypeName) (earlier : List (List ℕ)) (names : List FieldName)
    → ((dimension : Option Dimension) → is_some (shape_of_meant role dimension (meant environment.declarations t)) ≡ true) → AllRight (field_name_nodes environment t earlier names)
    → Every (WellDeclared environment.declarations) (map (λ (name : FieldName). record { role = role; name = name.name.text; type = t; dimension = name.dimension }) names)
names_well environment role t earlier [] h r = tt
names_well environment role t earlier (n ∷ names) h r = (
  (h n.dimension, dimension_element environment t n.dimension (every_left Right (dimension_nodes environment t n.dimension) _ r.1)),
  names_well environment role t (earlier ++ n.name.text ∷ []) names h (every_right Right (dimension_nodes environment t n.dimension) _ r.1),
)

fields_well : (environment : Environment) (earlier : List (List ℕ)) (fields : List Field) → AllRight (fields_nodes environment earlier fields) → Every (WellDeclared environment.declarations) (declared_fields InStruct fields)
fields_well environment earlier [] r = tt
fields_well environment earlier (field ∷ fields) r =
    let first = every_left Right (field_nodes environment InStruct earlier field) (fields_nodes environment (earlier ++ field_names field) fields) r in
    every_append (WellDeclared environment.declarations) (declared_by InStruct field) (declared_fields InStruct fields)
    (names_well environment InStruct field.type_name earlier field.names (λ dimension. field_shape dimension (meant environment.declarations field.type_name) first.0.known first.0.stands) first.1)
    (fields_well environment (earlier ++ field_names field) fields (every_right Right (field_nodes environment InStruct earlier field) (fields_nodes environment (earlier ++ field_names field) fields) r))

formals_well : (environment : Environment) (before : ℕ) (earlier : List (List ℕ)) (formals : List Formal) → AllRight (formal_nodes environment before earlier formals) → Every (WellDeclared environment.declarations) (declared_formals formals)
formals_well environment before earlier [] r = tt
formals_well environment before earlier (formal ∷ formals) r =
    let type_right = r.1.1.0 in (
      (formal_shape (meant environment.declarations formal.type_name) type_right.known type_right.stands, tt),
      formals_well environment (before + 1) (earlier ++ formal.name.text ∷ []) formals r.1.1.1,
    )

result_well : (environment : Environment) (result : ResultType) → AllRight (result_nodes result environment) → WellResult environment.declarations result
result_well environment (Void at) r = tt
result_well environment (Typed at t) r = result_value (meant environment.declarations t) r.0.known r.0.stands

-- ---- bodies

abbrev InsideRight : Inside → Type 0
InsideRight i = AllRight (inner_nodes i.environment i.inner)

each_inside : (is : List Inside) → AllRight (nodes_inside (map (λ (i : Inside). i.environment) is) (map (λ (i : Inside). i.inner) is)) → Every InsideRight is
each_inside [] r = tt
each_inside (i ∷ is) r =
    let others = nodes_inside (map (λ (i : Inside). i.environment) is) (map (λ (i : Inside). i.inner) is) in
    (every_left Right (inner_nodes i.environment i.inner) others r, each_inside is (every_right Right (inner_nodes i.environment i.inner) others r))

-- ---- items

abbrev in_the_class : List Declaration → Surrounding → Environment
in_the_class ds class = in_class class (at_top ds)

items_well : (ds : List Declaration) (class : Surrounding) (before : Before) (all items : List Item) → AllRight (item_nodes (in_the_class ds class) before items)
    → Every InsideRight (flat_map (inside_item (in_the_class ds class) all) items) → Every (WellItem ds class) items
items_well ds class before all [] r i = tt
items_well ds class before all (item.OfField at field ∷ items) r i =
    (tt, items_well ds class (record before { names = before.names ++ field_names field }) all items (every_right Right (field_nodes (in_the_class ds class) InState before.names field) _ r.1) i)
items_well ds class before all (item.Member at result name formals body ∷ items) r i =
    let h = in_the_class ds class in
    let signature = every_left Right (result_nodes result h ++ formal_nodes h 0 [] (formals_of formals)) _ r.1.1 in (
      ((formals_well h 0 [] (formals_of formals) (every_right Right (result_nodes result h) _ signature), i.0.1), result_well h result (every_left Right (result_nodes result h) _ signature)),
      items_well ds class (record before { names = before.names ++ name.text ∷ []; members = before.members + 1 }) all items (every_right Right (result_nodes result h ++ formal_nodes h 0 [] (formals_of formals)) _ r.1.1) i.1,
    )
items_well ds class before all (item.Select at line entries ∷ items) r i =
    let h = in_the_class ds class in (
      tt,
      items_well ds class (record before { selects = before.selects + 1 }) all items (every_right Right (entry_nodes h 0 entries) _ r.1.1)
          (every_right InsideRight (flat_map (λ (entry : Entry). guards_of_entry h all entry.member entry.guard) entries) _ i),
    )
items_well ds class before all (item.Public at ∷ items) r i = (tt, items_well ds class before all items r i)
items_well ds class before all (item.Private at ∷ items) r i = (tt, items_well ds class before all items r i)
items_well ds class before all (item.Empty at ∷ items) r i = (tt, items_well ds class before all items r i)

state_well : (ds : List Declaration) (class : Surrounding) (before : Before) (items : List Item) → AllRight (item_nodes (in_the_class ds class) before items)
    → Every (WellDeclared ds) (declared_fields InState (state_of items))
state_well ds class before [] r = tt
state_well ds class before (item.OfField at field ∷ items) r =
    let h = in_the_class ds class in
    let first = every_left Right (field_nodes h InState before.names field) _ r.1 in
    every_append (WellDeclared ds) (declared_by InState field) (declared_fields InState (state_of items))
    (names_well h InState field.type_name before.names field.names (λ dimension. state_shape dimension (meant ds field.type_name) first.0.known first.0.stands) first.1)
    (state_well ds class (record before { names = before.names ++ field_names field }) items (every_right Right (field_nodes h InState before.names field) _ r.1))
state_well ds class before (item.Member at result name formals body ∷ items) r =
    let h = in_the_class ds class in
    state_well ds class (record before { names = before.names ++ name.text ∷ []; members = before.members + 1 }) items (every_right Right (result_nodes result h ++ formal_nodes h 0 [] (formals_of formals)) _ r.1.1)
state_well ds class before (item.Select at line entries ∷ items) r = state_well ds class (record before { selects = before.selects + 1 }) items (every_right Right (entry_nodes (in_the_class ds class) 0 entries) _ r.1.1)
state_well ds class before (item.Public at ∷ items) r = state_well ds class before items r
state_well ds class before (item.Private at ∷ items) r = state_well ds class before items r
state_well ds class before (item.Empty at ∷ items) r = state_well ds class before items r

not_regular : (b : Bool) → not b ≡ true → b ≡ true → ⊥
not_regular true h e = cc
not_regular false h e = cc

stateless : (ds : List Declaration) (class : Surrounding) (before : Before) (items : List Item) → AllRight (item_nodes (in_the_class ds class) before items) → class.is_regular ≡ true → state_of items ≡ []
stateless ds class before [] r e = refl
stateless ds class before (item.OfField at field ∷ items) r e = absurd (not_regular class.is_regular r.0.state e)
stateless ds class before (item.Member at result name formals body ∷ items) r e =
    let h = in_the_class ds class in
    stateless ds class (record before { names = before.names ++ name.text ∷ []; members = before.members + 1 }) items (every_right Right (result_nodes result h ++ formal_nodes h 0 [] (formals_of formals)) _ r.1.1) e
stateless ds class before (item.Select at line entries ∷ items) r e = stateless ds class (record before { selects = before.selects + 1 }) items (every_right Right (entry_nodes (in_the_class ds class) 0 entries) _ r.1.1) e
stateless ds class before (item.Public at ∷ items) r e = stateless ds class before items r e
stateless ds class before (item.Private at ∷ items) r e = stateless ds class before items r e
stateless ds class before (item.Empty at ∷ items) r e = stateless ds class before items r e

-- ---- declarations

main_well : (named : Bool) (name : List ℕ) (formals : List Formal) (int : Bool) → is_main name ≡ named → (named ≡ true → (int && are_no_formals formals) ≡ true) → WellMain name formals
main_well named name [] int e h = tt
main_well true name (formal ∷ formals) int e h = absurd (let k = (both_true int false (h refl)).1 in cc)
main_well false name (formal ∷ formals) int e h = e

main_asks : (named : Bool) (d : Declaration) → main_is_right named d ≡ true → named ≡ true → is_int_without_formals d ≡ true
main_asks true d h e = h
main_asks false d h e = absurd cc

declaration_well : (ds : List Declaration) (before : ℕ) (d : Declaration) → Right (place (declaration_at d) (at_top ds) (node.ADeclaration before d)) → AllRight (parts_nodes (at_top ds) d)
    → Every InsideRight (inside_declaration (at_top ds) d) → WellDeclaration ds d
declaration_well ds before (declaration.Struct at line name fields) a r i = fields_well (at_top ds) [] fields r
declaration_well ds before (declaration.Class at line kind name items) a r i =
    let class = surrounding kind name items in
    (items_well ds class _ items items r i, state_well ds class _ items r, stateless ds class _ items r)
declaration_well ds before (declaration.Function at result name formals body) a r i =
    let d = declaration.Function at result name formals body in (
      (formals_well (at_top ds) 0 [] (formals_of formals) r.1, i.0.1),
      result_value (meant ds result) r.0.known r.0.stands,
      main_well (is_main name.text) name.text (formals_of formals) (is_int_type result) refl (main_asks (is_main name.text) d a.main),
    )

declarations_well : (ds : List Declaration) (before : ℕ) (earlier : List (List ℕ)) (some : List Declaration) → AllRight (declaration_nodes (at_top ds) before earlier some)
    → Every InsideRight (flat_map (inside_declaration (at_top ds)) some) → NamesDiffer earlier some × Every (WellDeclaration ds) some
declarations_well ds before earlier [] r i = (tt, tt)
declarations_well ds before earlier (d ∷ some) r i =
    let name = (declared_name d).text in
    let others = declarations_well ds (before + 1) (earlier ++ name ∷ []) some (every_right Right (parts_nodes (at_top ds) d) _ r.1.1)
    (every_right InsideRight (inside_declaration (at_top ds) d) (flat_map (inside_declaration (at_top ds)) some) i) in (
      (not_true (list_any (bytes_eq name) earlier) r.1.0.new, others.0),
      (declaration_well ds before d r.0 (every_left Right (parts_nodes (at_top ds) d) _ r.1.1) (every_left InsideRight (inside_declaration (at_top ds) d) _ i), others.1),
    )

pub well_program : (p : Program) → is_typed p ≡ true → WellProgram p.declarations
well_program p e =
    let r = typed_right p e in
    let outline = every_left Right (outline_nodes p) (nodes_inside (environments p) (inners p)) r in
    let inside = each_inside (insides p) (every_right Right (outline_nodes p) (nodes_inside (environments p) (inners p)) r) in
    let all = declarations_well p.declarations 0 [] p.declarations outline.1 inside in
    record { differ = all.0; each = all.1 }
