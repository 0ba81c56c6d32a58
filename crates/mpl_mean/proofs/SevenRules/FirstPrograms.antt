-- In a program of the first form only the seven rules of that form can fail.
use Rattle.std.proofs.Common.{◌≡◌, ℕ, ◌+◌, Bool, true, false, ◌&&◌, List, [], ◌∷◌, ◌++◌, map, Option, Some, None, if◌then◌else◌, refl, ap, sym, subst}
use Rattle.std.specs.Prelude.{flat_map, codes}
use Rattle.std.specs.List.{list_all}
use Rattle.std.specs.Str.{bytes_eq}
use Rattle.mpl_ast.specs.declared.class.Formal.{Formal}
use Rattle.mpl_ast.specs.declared.class.Formals.{Formals}
use Rattle.mpl_ast.specs.declared.class.Item.{Item}
use Rattle.mpl_ast.specs.declared.class.Item.TheVariants as item
use Rattle.mpl_ast.specs.declared.class.Kind.TheVariants.{Regular, Persistent}
use Rattle.mpl_ast.specs.declared.class.ResultType.{ResultType}
use Rattle.mpl_ast.specs.declared.class.ResultType.TheVariants.{Void, Typed}
use Rattle.mpl_ast.specs.declared.program.Declaration.{Declaration}
use Rattle.mpl_ast.specs.declared.program.Declaration.TheVariants as declaration
use Rattle.mpl_ast.specs.declared.program.Program.{Program}
use Rattle.mpl_ast.specs.declared.statement.Statement.{Statement}
use Rattle.mpl_ast.specs.declared.statement.TypeName.{TypeName}
use Rattle.mpl_ast.specs.declared.statement.TypeName.TheVariants as type
use Rattle.mpl_mean.specs.Plain.Stmt.{stmt_of, in_turn}
use Rattle.mpl_mean.specs.TypeRules.ClassRules.{member_gives_value, member_may_have}
use Rattle.mpl_mean.specs.FirstForms.FirstForm.{are_first, are_ints, gives_result, is_class, is_first_form, is_first_item, is_first_statement, is_int, is_int_result, is_one_result, is_without_formals}
use Rattle.mpl_mean.specs.FirstForms.FirstForm as first
use Rattle.mpl_mean.specs.Meaning.Layout.{formals_of}
use Rattle.mpl_mean.specs.TypeRules.Nodes.{place}
use Rattle.mpl_mean.specs.TypeRules.Nodes as node
use Rattle.mpl_mean.specs.TypeRules.ProgramNodes.{Before, Inside, declaration_at, declaration_nodes, declared_name, parts_nodes, formal_nodes, inner_nodes, inside_declaration, inside_item, insides, item_nodes, nodes, nodes_inside, outline_nodes, result_nodes, surrounding}
use Rattle.mpl_mean.specs.TypeRules.Rules.{failures, first_failures, rule}
use Rattle.mpl_mean.specs.TypeRules.Scopes.{Environment, Surrounding, InMain, InFunction, InMember, at_top, in_body, in_class, is_persistent}
use Rattle.mpl_mean.specs.TypeRules.SizeRules.{count_is_allowed}
use Rattle.mpl_mean.specs.TypeRules.StatementNodes.{stmts_walk, stmt_walk, type_at}
use Rattle.mpl_mean.specs.TypeRules.Types.{Role, AsFormal, AsResult, InState, declared_fields, declared_formals}
use Rattle.mpl_mean.proofs.SevenRules.FirstStmts.{statement_is_result}
use Rattle.mpl_mean.proofs.SevenRules.FirstBodies.{statements_same, result_same}
use Rattle.mpl_mean.proofs.SevenRules.FirstNodes.{Same, AllSame, same_append, same_failures, with_second}
use Rattle.mpl_mean.proofs.SevenRules.FirstTypes.{IsFirstTyped, AreFirstItems, AreFirstVariables, FirstEnvironment, OnlyFirst, meant_first, no_state}
use Rattle.mpl_mean.proofs.Truth.{both_true, four_true}

-- ---- bodies

abbrev AllInside : List Inside → Type 0
AllInside [] = Unit {0}
AllInside (i ∷ is) = AllSame (inner_nodes i.environment i.inner) × AllInside is

inside_append : (xs ys : List Inside) → AllInside xs → AllInside ys → AllInside (xs ++ ys)
inside_append [] ys a b = b
inside_append (x ∷ xs) ys a b = (a.0, inside_append xs ys a.1 b)

inside_same : (is : List Inside) → AllInside is → AllSame (nodes_inside (map (λ (i : Inside). i.environment) is) (map (λ (i : Inside). i.inner) is))
inside_same [] h = tt
inside_same (i ∷ is) h = same_append (inner_nodes i.environment i.inner) _ h.0 (inside_same is h.1)

int_typed : (t : TypeName) → is_int t ≡ true → IsFirstTyped AsFormal None t
int_typed (type.Int at) h = tt
int_typed (type.Bool at) h = absurd cc
int_typed (type.Named at name) h = absurd cc

int_formals : (fs : List Formal) → list_all (λ (f : Formal). is_int f.type_name) fs ≡ true → AreFirstVariables (declared_formals fs)
int_formals [] h = tt
int_formals (f ∷ fs) h =
    let b = both_true (is_int f.type_name) (list_all (λ (f : Formal). is_int f.type_name) fs) h in (int_typed f.type_name b.0, int_formals fs b.1)

formals_first : (fs : Option Formals) → are_ints fs ≡ true → AreFirstVariables (declared_formals (formals_of fs))
formals_first None h = tt
formals_first (Some fs) h = int_formals fs.list h

-- in a member of a class with these items
member_environment : (ds : List Declaration) → OnlyFirst ds → (class : Surrounding) → AreFirstItems class.items → (result : ResultType) (fs : Option Formals) → are_ints fs ≡ true
    → FirstEnvironment (in_body (InMember result) (declared_formals (formals_of fs)) (in_class class (at_top ds)))
member_environment ds only class items result fs h = record {
  program = only;
  locals = tt;
  formals = formals_first fs h;
  state = subst (λ state. AreFirstVariables (declared_fields InState state)) (sym (no_state class.items items)) tt;
}

body_same : (ss : List Statement) → is_one_result ss ≡ true → (environment : Environment) → FirstEnvironment environment → (result : ResultType) → is_int_result result ≡ true
    → environment.body ≡ InMember result → AllSame (stmts_walk (in_turn (map stmt_of ss)) environment).nodes
body_same [] h environment first result int body = absurd cc
body_same (one ∷ []) h environment first result int body =
    same_append (stmt_walk (stmt_of one) environment).nodes [] (result_same (stmt_of one) (statement_is_result one h) environment first result int body) tt
body_same (one ∷ two ∷ others) h environment first result int body = absurd cc

item_inside : (ds : List Declaration) → OnlyFirst ds → (class : Surrounding) → AreFirstItems class.items → (i : Item) → is_first_item i ≡ true
    → AllInside (inside_item (in_class class (at_top ds)) class.items i)
item_inside ds only class items (item.OfField at field) h = absurd cc
item_inside ds only class items (item.Member at result name fs body) h =
    let b = both_true (is_int_result result && are_ints fs) (is_one_result body.statements) h in
    let c = both_true (is_int_result result) (are_ints fs) b.0 in
    ((refl, body_same body.statements b.1 _ (member_environment ds only class items result fs c.1) result c.0 refl), tt)
item_inside ds only class items (item.Select at line entries) h = absurd cc
item_inside ds only class items (item.Public at) h = absurd cc
item_inside ds only class items (item.Private at) h = absurd cc
item_inside ds only class items (item.Empty at) h = absurd cc

items_inside : (ds : List Declaration) → OnlyFirst ds → (class : Surrounding) → AreFirstItems class.items → (is : List Item) → AreFirstItems is
    → AllInside (flat_map (inside_item (in_class class (at_top ds)) class.items) is)
items_inside ds only class items [] h = tt
items_inside ds only class items (i ∷ is) h =
    let b = both_true (is_first_item i) (list_all is_first_item is) h in
    inside_append (inside_item (in_class class (at_top ds)) class.items i) _ (item_inside ds only class items i b.0) (items_inside ds only class items is b.1)

class_inside : (ds : List Declaration) → OnlyFirst ds → (d : Declaration) → is_class d ≡ true → AllInside (inside_declaration (at_top ds) d)
class_inside ds only (declaration.Struct at line name fields) h = absurd cc
class_inside ds only (declaration.Class at line (Regular k) name items) h = items_inside ds only (surrounding (Regular k) name items) h items h
class_inside ds only (declaration.Class at line (Persistent k) name items) h = absurd cc
class_inside ds only (declaration.Function at result name fs body) h = absurd cc

main_inside : (ds : List Declaration) → OnlyFirst ds → (d : Declaration) → first.is_main d ≡ true → AllInside (inside_declaration (at_top ds) d)
main_inside ds only (declaration.Struct at line name fields) h = absurd cc
main_inside ds only (declaration.Class at line kind name items) h = absurd cc
main_inside ds only (declaration.Function at result name None body) h =
    let e = four_true (is_int result) (bytes_eq name.text (codes "main")) true (list_all is_first_statement body.statements) h in (
      (
        refl,
        statements_same body.statements e.3 _ (record {
          first = record { program = only; locals = tt; formals = tt; state = tt };
          main = ap (λ t. if t then InMain else InFunction result) e.1;
        }),
      ),
      tt,
    )
main_inside ds only (declaration.Function at result name (Some fs) body) h =
    let e = four_true (is_int result) (bytes_eq name.text (codes "main")) false (list_all is_first_statement body.statements) h in absurd cc

all_inside : (all : List Declaration) → OnlyFirst all → (ds : List Declaration) → are_first ds ≡ true → AllInside (flat_map (inside_declaration (at_top all)) ds)
all_inside all only [] h = absurd cc
all_inside all only (d ∷ []) h = inside_append (inside_declaration (at_top all) d) [] (main_inside all only d h) tt
all_inside all only (d ∷ e ∷ others) h =
    let b = both_true (is_class d) (are_first (e ∷ others)) h in
    inside_append (inside_declaration (at_top all) d) _ (class_inside all only d b.0) (all_inside all only (e ∷ others) b.1)

-- ---- the outline

type_same : (at : ℕ) (environment : Environment) (role : Role) (t : TypeName) → is_int t ≡ true → Same (place at environment (node.UsedType role true t))
type_same at environment role (type.Int t) h = refl
type_same at environment role (type.Bool t) h = absurd cc
type_same at environment role (type.Named t name) h = absurd cc

formal_same : (environment : Environment) (before : ℕ) (earlier : List (List ℕ)) (fs : List Formal) → list_all (λ (f : Formal). is_int f.type_name) fs ≡ true
    → AllSame (formal_nodes environment before earlier fs)
formal_same environment before earlier [] h = tt
formal_same environment before earlier (f ∷ fs) h =
    let b = both_true (is_int f.type_name) (list_all (λ (f : Formal). is_int f.type_name) fs) h in
    (refl, (refl, (type_same (type_at f.type_name) environment AsFormal f.type_name b.0, formal_same environment (before + 1) (earlier ++ f.name.text ∷ []) fs b.1)))

formals_same : (environment : Environment) (fs : Option Formals) → are_ints fs ≡ true → AllSame (formal_nodes environment 0 [] (formals_of fs))
formals_same environment None h = tt
formals_same environment (Some fs) h = formal_same environment 0 [] fs.list h

int_value : (r : ResultType) (t : Bool) → is_int_result r ≡ true → member_may_have t r ≡ true
int_value (Void at) t h = absurd cc
int_value (Typed at type) true h = refl
int_value (Typed at type) false h = refl

result_nodes_same : (environment : Environment) (r : ResultType) → is_int_result r ≡ true → AllSame (result_nodes r environment)
result_nodes_same environment (Void at) h = absurd cc
result_nodes_same environment (Typed at t) h = (type_same (type_at t) environment AsResult t h, tt)

items_same : (environment : Environment) (before : Before) (is : List Item) → AreFirstItems is → AllSame (item_nodes environment before is)
items_same environment before [] h = tt
items_same environment before (item.OfField at field ∷ is) h = absurd cc
items_same environment before (item.Member at result name fs body ∷ is) h =
    let b = both_true (is_first_item (item.Member at result name fs body)) (list_all is_first_item is) h in
    let c = both_true (is_int_result result && are_ints fs) (is_one_result body.statements) b.0 in
    let d = both_true (is_int_result result) (are_ints fs) c.0 in (
      with_second at.span.from (rule 8 count_is_allowed) (rule 25 member_gives_value) _ _ (int_value result (is_persistent environment.class) d.0),
      (
        refl,
        same_append (result_nodes result environment ++ formal_nodes environment 0 [] (formals_of fs)) _
            (same_append (result_nodes result environment) _ (result_nodes_same environment result d.0) (formals_same environment fs d.1)) (items_same environment (record before { names = before.names ++ name.text ∷ []; members = before.members + 1 }) is b.1),
      ),
    )
items_same environment before (item.Select at line entries ∷ is) h = absurd cc
items_same environment before (item.Public at ∷ is) h = absurd cc
items_same environment before (item.Private at ∷ is) h = absurd cc
items_same environment before (item.Empty at ∷ is) h = absurd cc

class_same : (environment : Environment) (before : ℕ) (d : Declaration) → is_class d ≡ true → Same (place (declaration_at d) environment (node.ADeclaration before d)) × AllSame (parts_nodes environment d)
class_same environment before (declaration.Struct at line name fields) h = absurd cc
class_same environment before (declaration.Class at line (Regular k) name items) h = (refl, items_same _ _ items h)
class_same environment before (declaration.Class at line (Persistent k) name items) h = absurd cc
class_same environment before (declaration.Function at result name fs body) h = absurd cc

main_same : (environment : Environment) (before : ℕ) (d : Declaration) → first.is_main d ≡ true → Same (place (declaration_at d) environment (node.ADeclaration before d)) × AllSame (parts_nodes environment d)
main_same environment before (declaration.Struct at line name fields) h = absurd cc
main_same environment before (declaration.Class at line kind name items) h = absurd cc
main_same environment before (declaration.Function at result name None body) h =
    let e = four_true (is_int result) (bytes_eq name.text (codes "main")) true (list_all is_first_statement body.statements) h in
    (refl, (type_same (type_at result) environment AsResult result e.0, tt))
main_same environment before (declaration.Function at result name (Some fs) body) h =
    let e = four_true (is_int result) (bytes_eq name.text (codes "main")) false (list_all is_first_statement body.statements) h in absurd cc

declarations_same : (environment : Environment) (before : ℕ) (earlier : List (List ℕ)) (ds : List Declaration) → are_first ds ≡ true → AllSame (declaration_nodes environment before earlier ds)
declarations_same environment before earlier [] h = absurd cc
declarations_same environment before earlier (d ∷ []) h =
    let m = main_same environment before d h in (m.0, (refl, same_append (parts_nodes environment d) [] m.1 tt))
declarations_same environment before earlier (d ∷ e ∷ others) h =
    let b = both_true (is_class d) (are_first (e ∷ others)) h in
    let c = class_same environment before d b.0 in
    (c.0, (refl, same_append (parts_nodes environment d) _ c.1 (declarations_same environment (before + 1) (earlier ++ (declared_name d).text ∷ []) (e ∷ others) b.1)))

-- ---- the whole of it

nodes_same : (p : Program) → is_first_form p ≡ true → AllSame (nodes p)
nodes_same p h =
    same_append (outline_nodes p) _ (refl, declarations_same (at_top p.declarations) 0 [] p.declarations h)
    (inside_same (insides p) (all_inside p.declarations (meant_first p.declarations h) p.declarations h))

pub first_form_failures : (p : Program) → is_first_form p ≡ true → failures p ≡ first_failures p
first_form_failures p h = same_failures (nodes p) (nodes_same p h)
