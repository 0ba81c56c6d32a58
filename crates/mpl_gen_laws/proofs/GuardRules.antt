-- In a typed program guards are expressions that compute alone.
use Rattle.std.proofs.Common.{◌≡◌, Bool, true, false, not, List, [], ◌∷◌, ◌++◌, map, flat_map, Option, Some, None, if◌then◌else◌, refl, sym, ◌∙◌}
use Rattle.std.proofs.lemmas.List.Folds.{list_all-append}
use Rattle.std.specs.List.{list_all}
use Rattle.mpl_ast.specs.declared.class.Entry.{Entry}
use Rattle.mpl_ast.specs.declared.class.Item.{Item}
use Rattle.mpl_ast.specs.declared.class.Item.TheVariants as item
use Rattle.mpl_ast.specs.declared.expression.Expression.{Expression}
use Rattle.mpl_ast.specs.declared.place.Name.{Name}
use Rattle.mpl_ast.specs.declared.program.Declaration.{Declaration}
use Rattle.mpl_ast.specs.declared.program.Declaration.TheVariants as declaration
use Rattle.mpl_ast.specs.declared.program.Program.{Program}
use Rattle.mpl_mean.specs.Laws.Sizes.{Every}
use Rattle.mpl_mean.specs.Meaning.CallMeaning.{MayName}
use Rattle.mpl_mean.specs.Meaning.ExpressionMeaning.{Evaluates}
use Rattle.mpl_mean.specs.Plain.Expr.{Expr, expr_of}
use Rattle.mpl_mean.specs.TypeRules.ClassRules.{guard_is_allowed, may_stand_in_guard}
use Rattle.mpl_mean.specs.TypeRules.Nodes.{Located, expr_nodes, place, target_nodes}
use Rattle.mpl_mean.specs.TypeRules.Nodes as node
use Rattle.mpl_mean.specs.TypeRules.ProgramNodes.{Inner, OfGuard, Inside, environments, guard, guards_of_entry, inner_nodes, inners, inside_class, inside_declaration, inside_item, insides, nodes, nodes_inside, outline_nodes, surrounding}
use Rattle.mpl_mean.specs.TypeRules.Rules.{Failure, Rule, failing_at, failures_among, failures_at, is_empty, is_typed, rules}
use Rattle.mpl_mean.specs.TypeRules.Scopes.{Environment, at_top, in_class}
use Rattle.mpl_mean.proofs.Sizes.SizedForms.{Means, number, truth, own, input, whole, element, plain, parenthesized, unary, arithmetic, compares, or, and}
use Rattle.mpl_mean.proofs.Sizes.SizedRules.{AllRight, Right, every_left, every_right, typed_right}
use Rattle.mpl_mean.proofs.Truth.{both_true}
use Rattle.mpl_gen_laws.proofs.GuardForms.{Pure}

-- ---- the rule on guards, at each node

pub empty_left : (xs ys : List Failure) → is_empty (xs ++ ys) ≡ true → is_empty xs ≡ true
empty_left [] ys e = refl
empty_left (x ∷ xs) ys e = absurd cc

pub empty_right : (xs ys : List Failure) → is_empty (xs ++ ys) ≡ true → is_empty ys ≡ true
empty_right [] ys e = e
empty_right (x ∷ xs) ys e = absurd cc

abbrev pub Holds : Located → Rule → Type 0
Holds p r = r.holds p.environment p.node ≡ true

abbrev named : Located → List Rule → List Failure
named p some = map (λ (r : Rule). record { at = p.at; rule = r.number }) some

pub hold_all : (p : Located) (some : List Rule) → is_empty (failures_at some p) ≡ true → Every (Holds p) some
hold_all p [] e = tt
hold_all p (r ∷ some) e = chosen (r.holds p.environment p.node) refl (hold_all p some) e where
  chosen : (b : Bool) → r.holds p.environment p.node ≡ b → (is_empty (failures_at some p) ≡ true → Every (Holds p) some) → is_empty (named p (if not b then r ∷ failing_at p some else failing_at p some)) ≡ true → Every (Holds p) (r ∷ some)
  chosen true i k e = (i, k e)
  chosen false i k e = absurd cc

abbrev pub Allowed : Located → Type 0
Allowed p = guard_is_allowed p.environment p.node ≡ true

all_allowed : (ps : List Located) → is_empty (failures_among rules ps) ≡ true → Every Allowed ps
all_allowed [] e = tt
all_allowed (p ∷ ps) e =
    let h = hold_all p rules (empty_left (failures_at rules p) (failures_among rules ps) e) in
    (h.1.1.1.1.1.1.1.1.1.1.0, all_allowed ps (empty_right (failures_at rules p) (failures_among rules ps) e))

-- ---- the guards

-- the rules hold at its nodes, and that on guards too
pub record Keeps (environment : Environment) (test : Expression) : Type 0 where
  pub right : AllRight (expr_nodes environment (expr_of test))
  pub allowed : guard_is_allowed environment (node.AGuard (expr_of test)) ≡ true

abbrev InnerKeeps : Environment → Inner → Type 0
InnerKeeps environment (OfGuard test) = AllRight (expr_nodes environment test) × (guard_is_allowed environment (node.AGuard test) ≡ true)
InnerKeeps environment other = Unit {0}

abbrev InsideKeeps : Inside → Type 0
InsideKeeps i = InnerKeeps i.environment i.inner

inner_keeps : (environment : Environment) (inner : Inner) → AllRight (inner_nodes environment inner) → Every Allowed (inner_nodes environment inner) → InnerKeeps environment inner
inner_keeps environment (OfGuard test) r a = (r.1, a.0)
inner_keeps environment (Rattle.mpl_mean.specs.TypeRules.ProgramNodes.OfRoutine at formals stmts) r a = tt

each_keeps : (is : List Inside) → AllRight (nodes_inside (map (λ (i : Inside). i.environment) is) (map (λ (i : Inside). i.inner) is))
    → Every Allowed (nodes_inside (map (λ (i : Inside). i.environment) is) (map (λ (i : Inside). i.inner) is)) → Every InsideKeeps is
each_keeps [] r a = tt
each_keeps (i ∷ is) r a =
    let others = nodes_inside (map (λ (i : Inside). i.environment) is) (map (λ (i : Inside). i.inner) is) in (
      inner_keeps i.environment i.inner (every_left Right (inner_nodes i.environment i.inner) others r) (every_left Allowed (inner_nodes i.environment i.inner) others a),
      each_keeps is (every_right Right (inner_nodes i.environment i.inner) others r) (every_right Allowed (inner_nodes i.environment i.inner) others a),
    )

-- an entry's guard in its class
abbrev pub GuardKeeps : Environment → List Item → Name → Option Expression → Type 0
GuardKeeps environment items member None = Unit {0}
GuardKeeps environment items member (Some test) = Keeps (guard environment items member test).environment test

abbrev pub EntryKeeps : Environment → List Item → Entry → Type 0
EntryKeeps environment items entry = GuardKeeps environment items entry.member entry.guard

guard_keeps : (environment : Environment) (items : List Item) (member : Name) (test : Option Expression) → Every InsideKeeps (guards_of_entry environment items member test) → GuardKeeps environment items member test
guard_keeps environment items member None h = tt
guard_keeps environment items member (Some test) h = record { right = h.0.0; allowed = h.0.1 }

entries_keep : (environment : Environment) (items : List Item) (entries : List Entry) → Every InsideKeeps (flat_map (λ (entry : Entry). guards_of_entry environment items entry.member entry.guard) entries)
    → Every (EntryKeeps environment items) entries
entries_keep environment items [] h = tt
entries_keep environment items (entry ∷ entries) h =
    let others = flat_map (λ (entry : Entry). guards_of_entry environment items entry.member entry.guard) entries in (
      guard_keeps environment items entry.member entry.guard (every_left InsideKeeps (guards_of_entry environment items entry.member entry.guard) others h),
      entries_keep environment items entries (every_right InsideKeeps (guards_of_entry environment items entry.member entry.guard) others h),
    )

abbrev pub ItemKeeps : Environment → List Item → Item → Type 0
ItemKeeps environment all (item.Select at line entries) = Every (EntryKeeps environment all) entries
ItemKeeps environment all other = Unit {0}

item_keeps : (environment : Environment) (all : List Item) (i : Item) → Every InsideKeeps (inside_item environment all i) → ItemKeeps environment all i
item_keeps environment all (item.OfField at field) h = tt
item_keeps environment all (item.Member at result name formals body) h = tt
item_keeps environment all (item.Select at line entries) h = entries_keep environment all entries h
item_keeps environment all (item.Public at) h = tt
item_keeps environment all (item.Private at) h = tt
item_keeps environment all (item.Empty at) h = tt

items_keep : (environment : Environment) (all items : List Item) → Every InsideKeeps (flat_map (inside_item environment all) items) → Every (ItemKeeps environment all) items
items_keep environment all [] h = tt
items_keep environment all (i ∷ items) h =
    let others = flat_map (inside_item environment all) items in
    (item_keeps environment all i (every_left InsideKeeps (inside_item environment all i) others h), items_keep environment all items (every_right InsideKeeps (inside_item environment all i) others h))

abbrev pub DeclarationKeeps : List Declaration → Declaration → Type 0
DeclarationKeeps ds (declaration.Class at line kind name items) = Every (ItemKeeps (in_class (surrounding kind name items) (at_top ds)) items) items
DeclarationKeeps ds (declaration.Struct at line name fields) = Unit {0}
DeclarationKeeps ds (declaration.Function at result name formals body) = Unit {0}

declaration_keeps : (ds : List Declaration) (d : Declaration) → Every InsideKeeps (inside_declaration (at_top ds) d) → DeclarationKeeps ds d
declaration_keeps ds (declaration.Class at line kind name items) h = items_keep (in_class (surrounding kind name items) (at_top ds)) items items h
declaration_keeps ds (declaration.Struct at line name fields) h = tt
declaration_keeps ds (declaration.Function at result name formals body) h = tt

declarations_keep : (ds some : List Declaration) → Every InsideKeeps (flat_map (inside_declaration (at_top ds)) some) → Every (DeclarationKeeps ds) some
declarations_keep ds [] h = tt
declarations_keep ds (d ∷ some) h =
    let others = flat_map (inside_declaration (at_top ds)) some in
    (declaration_keeps ds d (every_left InsideKeeps (inside_declaration (at_top ds) d) others h), declarations_keep ds some (every_right InsideKeeps (inside_declaration (at_top ds) d) others h))

pub guards_keep : (p : Program) → is_typed p ≡ true → Every (DeclarationKeeps p.declarations) p.declarations
guards_keep p e =
    let inside = nodes_inside (environments p) (inners p) in
    declarations_keep p.declarations p.declarations
    (each_keeps (insides p) (every_right Right (outline_nodes p) inside (typed_right p e)) (every_right Allowed (outline_nodes p) inside (all_allowed (nodes p) e)))

-- ---- what may not stand in a guard

abbrev May : Located → Bool
May p = may_stand_in_guard p.node

first_may : (a b : List Located) → list_all May (a ++ b) ≡ true → list_all May a ≡ true
first_may a b h = (both_true (list_all May a) (list_all May b) (sym (list_all-append May a b) ∙ h)).0

second_may : (a b : List Located) → list_all May (a ++ b) ≡ true → list_all May b ≡ true
second_may a b h = (both_true (list_all May a) (list_all May b) (sym (list_all-append May a b) ∙ h)).1

pub is_pure : (environment : Environment) {v : Evaluates} {p : Expr} {n : MayName} → Means v p n → list_all May (expr_nodes environment p) ≡ true → Pure p
is_pure environment (number at z) h = tt
is_pure environment (truth at b) h = tt
is_pure environment (own at) h = absurd cc
is_pure environment (input at) h = absurd cc
is_pure environment (whole at t) h = tt
is_pure environment (element {p = p} at line t i) h = is_pure environment i (second_may (target_nodes environment t) (expr_nodes environment p) h)
is_pure environment (plain at f k) h = absurd cc
is_pure environment (parenthesized at i) h = is_pure environment i h
is_pure environment (unary at line o i) h = is_pure environment i h
is_pure environment (arithmetic {p = p} {q = q} at line operator o i j) h =
    (is_pure environment i (first_may (expr_nodes environment p) (expr_nodes environment q) h), is_pure environment j (second_may (expr_nodes environment p) (expr_nodes environment q) h))
is_pure environment (compares {p = p} {q = q} at line operator o i j) h =
    (is_pure environment i (first_may (expr_nodes environment p) (expr_nodes environment q) h), is_pure environment j (second_may (expr_nodes environment p) (expr_nodes environment q) h))
is_pure environment (or {p = p} {q = q} at line i j) h =
    (is_pure environment i (first_may (expr_nodes environment p) (expr_nodes environment q) h), is_pure environment j (second_may (expr_nodes environment p) (expr_nodes environment q) h))
is_pure environment (and {p = p} {q = q} at line i j) h =
    (is_pure environment i (first_may (expr_nodes environment p) (expr_nodes environment q) h), is_pure environment j (second_may (expr_nodes environment p) (expr_nodes environment q) h))
