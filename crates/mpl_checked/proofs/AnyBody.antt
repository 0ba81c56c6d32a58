-- The bodies of a program, by the names and numbers that find them.
use Rattle.std.proofs.Common.{◌≡◌, ℕ, Bool, true, false, List, [], ◌∷◌, ◌++◌, inl, inr, map, Option, Some, None, if◌then◌else◌, refl, sym, subst}
use Rattle.std.specs.Prelude.{flat_map, nat_eq}
use Rattle.std.specs.Str.{bytes_eq}
use Rattle.mpl_ast.specs.declared.program.Declaration.{Declaration}
use Rattle.mpl_ast.specs.declared.program.Declaration.TheVariants as declaration
use Rattle.mpl_mean.specs.Meaning.BodyMeaning.{member_of_classes, member_or}
use Rattle.mpl_mean.specs.Meaning.Layout.{Class, Function, Member, class_named, classes_of, formals_of, function_named, member_named, member_numbered}
use Rattle.mpl_mean.specs.Pending.MayBePending.{AnyMarked, all_ways, function_ways, functions_of, member_ways}
use Rattle.mpl_mean.specs.Pending.Paths.{Marked, Ways}
use Rattle.mpl_mean.proofs.Truth.{some_is}

any_first : (a b : List Ways) (node : ℕ) → AnyMarked a node → AnyMarked (a ++ b) node
any_first [] b node h = absurd h
any_first (ways ∷ a) b node (inl h) = inl h
any_first (ways ∷ a) b node (inr h) = inr (any_first a b node h)

any_last : (a b : List Ways) (node : ℕ) → AnyMarked b node → AnyMarked (a ++ b) node
any_last [] b node h = h
any_last (ways ∷ a) b node h = inr (any_last a b node h)

-- ---- functions

any_function : (g : Function → Ways) (name : List ℕ) (f : Function) (ds : List Declaration) (node : ℕ) → function_named name ds ≡ Some f → Marked (g f) node → AnyMarked (map g (functions_of ds)) node
any_function g name f [] node e h = absurd cc
any_function g name f (declaration.Struct at line struct fields ∷ ds) node e h = any_function g name f ds node e h
any_function g name f (declaration.Class at line kind class items ∷ ds) node e h = any_function g name f ds node e h
any_function g name f (declaration.Function at result function formals body ∷ ds) node e h =
    chosen (bytes_eq function.text name) e (any_function g name f ds node) where
      chosen : (b : Bool) → (if b then Some (record { result = result; formals = formals_of formals; body = body }) else function_named name ds) ≡ Some f
          → (function_named name ds ≡ Some f → Marked (g f) node → AnyMarked (map g (functions_of ds)) node)
          → AnyMarked (map g (functions_of (declaration.Function at result function formals body ∷ ds))) node
      chosen true e next = inl (subst (λ f. Marked (g f) node) (sym (some_is e)) h)
      chosen false e next = inr (next e h)

-- ---- members

any_member : (g : Member → Ways) (name : List ℕ) (m : Member) (ms : List Member) (node : ℕ) → member_named name ms ≡ Some m → Marked (g m) node → AnyMarked (map g ms) node
any_member g name m [] node e h = absurd cc
any_member g name m (first ∷ ms) node e h = chosen (bytes_eq first.name name) e (any_member g name m ms node) where
  chosen : (b : Bool) → (if b then Some first else member_named name ms) ≡ Some m → (member_named name ms ≡ Some m → Marked (g m) node → AnyMarked (map g ms) node) → AnyMarked (map g (first ∷ ms)) node
  chosen true e next = inl (subst (λ m. Marked (g m) node) (sym (some_is e)) h)
  chosen false e next = inr (next e h)

any_numbered : (g : Member → Ways) (id : ℕ) (m : Member) (ms : List Member) (node : ℕ) → member_numbered id ms ≡ Some m → Marked (g m) node → AnyMarked (map g ms) node
any_numbered g id m [] node e h = absurd cc
any_numbered g id m (first ∷ ms) node e h = chosen (nat_eq first.id id) e (any_numbered g id m ms node) where
  chosen : (b : Bool) → (if b then Some first else member_numbered id ms) ≡ Some m → (member_numbered id ms ≡ Some m → Marked (g m) node → AnyMarked (map g ms) node) → AnyMarked (map g (first ∷ ms)) node
  chosen true e next = inl (subst (λ m. Marked (g m) node) (sym (some_is e)) h)
  chosen false e next = inr (next e h)

abbrev Each : (Class → Member → Ways) → List Class → List Ways
Each g classes = flat_map (λ (class : Class). map (g class) class.members) classes

any_named : (g : Class → Member → Ways) (name member : List ℕ) (class : Class) (m : Member) (classes : List Class) (node : ℕ) → class_named name classes ≡ Some class → member_named member class.members ≡ Some m
    → Marked (g class m) node → AnyMarked (Each g classes) node
any_named g name member class m [] node e found h = absurd cc
any_named g name member class m (first ∷ classes) node e found h = chosen (bytes_eq first.name name) e (any_named g name member class m classes node) where
  chosen : (b : Bool) → (if b then Some first else class_named name classes) ≡ Some class
      → (class_named name classes ≡ Some class → member_named member class.members ≡ Some m → Marked (g class m) node → AnyMarked (Each g classes) node) → AnyMarked (Each g (first ∷ classes)) node
  chosen true e next =
      let same : first ≡ class = some_is e in
      any_first (map (g first) first.members) (Each g classes) node
      (subst (λ class. AnyMarked (map (g class) class.members) node) (sym same) (any_member (g class) member m class.members node found h))
  chosen false e next = any_last (map (g first) first.members) (Each g classes) node (next e found h)

any_of_classes : (g : Class → Member → Ways) (id : ℕ) (found : Class × Member) (classes : List Class) (node : ℕ) → member_of_classes id classes ≡ Some found → Marked (g found.0 found.1) node → AnyMarked (Each g classes) node
any_of_classes g id found [] node e h = absurd cc
any_of_classes g id found (first ∷ classes) node e h = chosen (member_numbered id first.members) refl e (any_of_classes g id found classes node) where
  chosen : (m : Option Member) → member_numbered id first.members ≡ m → member_or first m (member_of_classes id classes) ≡ Some found
      → (member_of_classes id classes ≡ Some found → Marked (g found.0 found.1) node → AnyMarked (Each g classes) node) → AnyMarked (Each g (first ∷ classes)) node
  chosen None is e next = any_last (map (g first) first.members) (Each g classes) node (next e h)
  chosen (Some m) is e next =
      any_first (map (g first) first.members) (Each g classes) node
      (any_numbered (g first) id m first.members node is (subst (λ (found : Class × Member). Marked (g found.0 found.1) node) (sym (some_is e)) h))

-- ---- all bodies

pub function_marked : (ds : List Declaration) (name : List ℕ) (f : Function) (node : ℕ) → function_named name ds ≡ Some f → Marked (function_ways ds f) node → AnyMarked (all_ways ds) node
function_marked ds name f node e h = any_first _ _ node (any_function (function_ways ds) name f ds node e h)

pub member_marked : (ds : List Declaration) (name member : List ℕ) (class : Class) (m : Member) (node : ℕ) → class_named name (classes_of ds) ≡ Some class → member_named member class.members ≡ Some m
    → Marked (member_ways ds class m) node → AnyMarked (all_ways ds) node
member_marked ds name member class m node e found h = any_last (map (function_ways ds) (functions_of ds)) _ node (any_named (member_ways ds) name member class m (classes_of ds) node e found h)

pub numbered_marked : (ds : List Declaration) (id : ℕ) (found : Class × Member) (node : ℕ) → member_of_classes id (classes_of ds) ≡ Some found → Marked (member_ways ds found.0 found.1) node → AnyMarked (all_ways ds) node
numbered_marked ds id found node e h = any_last (map (function_ways ds) (functions_of ds)) _ node (any_of_classes (member_ways ds) id found (classes_of ds) node e h)
