-- The uses that are marked in bodies, one body after another.
use Rattle.std.proofs.Common.{◌≡◌, ℕ, ◌+◌, Bool, true, false, List, [], ◌∷◌, ◌++◌, ◌⊎◌, inl, inr, drop, length, flat_map, map, ◌<◌, if◌then◌else◌, refl, ap, ap₂, sym, subst, arith, ◌∙◌}
use Rattle.std.specs.List.{Contains}
use Rattle.std.specs.List.Sorted.{IsStrictlyIncreasing}
use Rattle.mpl_ast.specs.declared.class.Item.{Item}
use Rattle.mpl_ast.specs.declared.class.Item.TheVariants as item
use Rattle.mpl_ast.specs.declared.program.Declaration.{Declaration}
use Rattle.mpl_ast.specs.declared.program.Declaration.TheVariants as declaration
use Rattle.mpl_ast.specs.declared.program.Program.{Program}
use Rattle.mpl_mean.specs.Meaning.BodyMeaning.{of_object}
use Rattle.mpl_mean.specs.Meaning.Layout.{Class, Member, Part, classes_from, formals_of, is_regular, members_from, parts_of, state_of}
use Rattle.mpl_mean.specs.Pending.BodyWays.{stmts_ways}
use Rattle.mpl_mean.specs.Pending.MayBePending.{AnyMarked, all_ways, function_ways, functions_of, member_ways}
use Rattle.mpl_mean.specs.Pending.Paths.{Ways}
use Rattle.mpl_mean.specs.Plain.Scopes.{formal_shape, member_env}
use Rattle.mpl_mean.specs.Plain.Stmt.{stmts_from}
use Rattle.mpl_depend.specs.Internal.Bodies.{Adds, body_ways, class_row, function_row, item_row, state_in}
use Rattle.mpl_depend.specs.Marks.{AreMarks}
use Rattle.mpl_depend.proofs.Members.{stmts_same}
use Rattle.mpl_depend.proofs.Walks.{either_way}

-- ---- rows of ways

any_front : (a b : List Ways) (node : ℕ) → AnyMarked a node → AnyMarked (a ++ b) node
any_front [] b node h = absurd h
any_front (ways ∷ a) b node (inl h) = inl h
any_front (ways ∷ a) b node (inr h) = inr (any_front a b node h)

any_behind : (a b : List Ways) (node : ℕ) → AnyMarked b node → AnyMarked (a ++ b) node
any_behind [] b node h = h
any_behind (ways ∷ a) b node h = inr (any_behind a b node h)

any_of : (a b : List Ways) (node : ℕ) → AnyMarked (a ++ b) node → AnyMarked a node ⊎ AnyMarked b node
any_of [] b node h = inr h
any_of (ways ∷ a) b node (inl h) = inl (inl h)
any_of (ways ∷ a) b node (inr h) = either_way (any_of a b node h) (λ k. inl (inr k)) (λ k. inr k)

pub adds_nothing : (marks : List ℕ) → Adds [] marks marks
adds_nothing marks = record { kept = λ node h. h; sound = λ node h. inl h; complete = λ node h. absurd h }

pub adds_both : (a b : List Ways) (marks more most : List ℕ) → Adds a marks more → Adds b more most → Adds (a ++ b) marks most
adds_both a b marks more most one two = record {
  kept = λ node h. two.kept node (one.kept node h);
  sound = λ node h. either_way (two.sound node h) (λ k. either_way (one.sound node k) (λ l. inl l) (λ l. inr (any_front a b node l))) (λ k. inr (any_behind a b node k));
  complete = λ node h. either_way (any_of a b node h) (λ k. two.kept node (one.complete node k)) (λ k. two.complete node k);
}

-- ---- one row after another

-- what is left of the rows would make all of them
abbrev pub Behind : {A : Type 0} → (A → List Ways) → List A → ℕ → List ℕ → List ℕ → Type 0
Behind f list place start now = (most : List ℕ) → Adds (flat_map f (drop place list)) now most → Adds (flat_map f list) start most

pub row_begins : {A : Type 0} (f : A → List Ways) (list : List A) (start : List ℕ) → Behind f list 0 start start
row_begins f list start most h = h

pub row_goes_on : {A : Type 0} (f : A → List Ways) (list : List A) (place : ℕ) (x : A) (start now new : List ℕ) → drop place list ≡ x ∷ drop (place + 1) list → Behind f list place start now → Adds (f x) now new
    → Behind f list (place + 1) start new
row_goes_on f list place x start now new e before one most rest =
    before most (subst (λ left. Adds (flat_map f left) now most) (sym e) (adds_both (f x) (flat_map f (drop (place + 1) list)) now new most one rest))

pub row_ends : {A : Type 0} (f : A → List Ways) (list : List A) (place : ℕ) (start now : List ℕ) → drop place list ≡ [] → Behind f list place start now → Adds (flat_map f list) start now
row_ends f list place start now e before = before now (subst (λ left. Adds (flat_map f left) now now) (sym e) (adds_nothing now))

-- ---- the rows of a program

functions_are : (ds all : List Declaration) → map (function_ways ds) (functions_of all) ≡ flat_map (function_row ds) all
functions_are ds [] = refl
functions_are ds (declaration.Struct at line struct fields ∷ others) = functions_are ds others
functions_are ds (declaration.Class at line kind class items ∷ others) = functions_are ds others
functions_are ds (declaration.Function at result function formals body ∷ others) = ap (λ rest. body_ways ds [] (formals_of formals) body.statements ∷ rest) (functions_are ds others)

-- the members of a class see these parts
member_is : (ds : List Declaration) (class : Class) (state : List Item) (m : Member) → of_object class (parts_of ds class.state) ≡ parts_of ds (state_of state)
    → member_ways ds class m ≡ body_ways ds state m.formals m.body.statements
member_is ds class state m parts =
    sym (stmts_same (member_env ds class m) (stmts_from m.body.statements))
    ∙ ap (λ (parts : List Part). stmts_ways (record { declarations = ds; members = []; parts = parts; scope = map formal_shape m.formals }) (stmts_from m.body.statements)) parts

members_are : (ds : List Declaration) (class : Class) (state : List Item) (id : ℕ) (items : List Item) → of_object class (parts_of ds class.state) ≡ parts_of ds (state_of state)
    → map (member_ways ds class) (members_from id items) ≡ flat_map (item_row ds state) items
members_are ds class state id [] parts = refl
members_are ds class state id (item.OfField at field ∷ items) parts = members_are ds class state id items parts
members_are ds class state id (item.Member at result name formals body ∷ items) parts =
    ap₂ (λ ways rest. ways ∷ rest) (member_is ds class state (record { id = id; name = name.text; result = result; formals = formals_of formals; body = body }) parts) (members_are ds class state (id + 1) items parts)
members_are ds class state id (item.Select at line entries ∷ items) parts = members_are ds class state id items parts
members_are ds class state id (item.Public at ∷ items) parts = members_are ds class state id items parts
members_are ds class state id (item.Private at ∷ items) parts = members_are ds class state id items parts
members_are ds class state id (item.Empty at ∷ items) parts = members_are ds class state id items parts

sees_state : (ds : List Declaration) (class : Class) (items : List Item) (regular : Bool) → class.is_regular ≡ regular → class.state ≡ state_of items
    → of_object class (parts_of ds class.state) ≡ parts_of ds (state_of (state_in regular items))
sees_state ds class items true e is = ap (λ (b : Bool). if b then [] else parts_of ds class.state) e
sees_state ds class items false e is = ap (λ (b : Bool). if b then [] else parts_of ds class.state) e ∙ ap (parts_of ds) is

classes_are : (ds : List Declaration) (number id : ℕ) (all : List Declaration) → flat_map (λ (class : Class). map (member_ways ds class) class.members) (classes_from number id all) ≡ flat_map (class_row ds) all
classes_are ds number id [] = refl
classes_are ds number id (declaration.Struct at line struct fields ∷ others) = classes_are ds number id others
classes_are ds number id (declaration.Class at line kind name items ∷ others) =
    let class : Class = record { number = number; name = name.text; is_regular = is_regular kind; state = state_of items; members = members_from id items } in
    ap₂ (λ (a b : List Ways). a ++ b)
    (members_are ds class (state_in (is_regular kind) items) id items (sees_state ds class items (is_regular kind) refl refl))
    (classes_are ds (number + 1) (id + length (members_from id items)) others)
classes_are ds number id (declaration.Function at result function formals body ∷ others) = classes_are ds number id others

rows_are : (ds : List Declaration) → all_ways ds ≡ flat_map (function_row ds) ds ++ flat_map (class_row ds) ds
rows_are ds = ap₂ (λ (a b : List Ways). a ++ b) (functions_are ds ds) (classes_are ds 0 0 ds)

-- from no marks on, those of the functions and of the members are those of the program
pub marks_are : (p : Program) (marks nodes : List ℕ) → Adds (flat_map (function_row p.declarations) p.declarations ++ flat_map (class_row p.declarations) p.declarations) [] marks
    → ((node : ℕ) → Contains nodes node → Contains marks node) → ((node : ℕ) → Contains marks node → Contains nodes node) → IsStrictlyIncreasing nodes → AreMarks nodes p
marks_are p marks nodes all sound complete rising = record {
  sound = λ node h. subst (λ (row : List Ways). AnyMarked row node) (sym (rows_are p.declarations)) (either_way (all.sound node (sound node h)) (λ k. absurd (nowhere node k)) (λ k. k));
  complete = λ node h. complete node (all.complete node (subst (λ (row : List Ways). AnyMarked row node) (rows_are p.declarations) h));
  rising = rising;
} where
  nowhere : (node : ℕ) → Contains {X = ℕ} [] node → ⊥
  nowhere node h = let less : h.0 < 0 = h.1 in omega arith

pub marks_at : (p : Program) {ds list : List Declaration} (marks nodes : List ℕ) → Adds (flat_map (function_row ds) list ++ flat_map (class_row ds) list) [] marks → ds ≡ p.declarations → list ≡ p.declarations
    → ((node : ℕ) → Contains nodes node → Contains marks node) → ((node : ℕ) → Contains marks node → Contains nodes node) → IsStrictlyIncreasing nodes → AreMarks nodes p
marks_at p {ds} {list} marks nodes all same here sound complete rising =
    marks_are p marks nodes
    (subst (λ (ds : List Declaration). Adds (flat_map (function_row ds) p.declarations ++ flat_map (class_row ds) p.declarations) [] marks) same
    (subst (λ (list : List Declaration). Adds (flat_map (function_row ds) list ++ flat_map (class_row ds) list) [] marks) here all)) sound complete rising
