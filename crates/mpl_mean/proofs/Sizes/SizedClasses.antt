-- What is found by the names of types and members, where the names of declarations differ.
use Rattle.std.proofs.Common.{◌≡◌, ℕ, ◌+◌, ◌≤◌, ◌<◌, Bool, true, false, List, [], ◌∷◌, ◌++◌, length, Option, Some, None, if◌then◌else◌, refl, sym, ap, subst, ◌∙◌, arith}
use Rattle.std.proofs.lemmas.Bool.Decides.{nat_tests}
use Rattle.std.proofs.lemmas.List.Folds.{list_any-append}
use Rattle.std.proofs.lemmas.Slice.Eq.{bytes_eq-Decides}
use Rattle.std.specs.List.{list_any}
use Rattle.std.specs.Prelude.{nat_eq}
use Rattle.std.specs.Str.{bytes_eq}
use Rattle.mpl_ast.specs.declared.class.Formals.{Formals}
use Rattle.mpl_ast.specs.declared.class.Item.{Item}
use Rattle.mpl_ast.specs.declared.class.Item.TheVariants as item
use Rattle.mpl_ast.specs.declared.class.Kind.{Kind}
use Rattle.mpl_ast.specs.declared.class.ResultType.{ResultType}
use Rattle.mpl_ast.specs.declared.place.Name.{Name}
use Rattle.mpl_ast.specs.declared.program.Declaration.{Declaration}
use Rattle.mpl_ast.specs.declared.program.Declaration.TheVariants as declaration
use Rattle.mpl_ast.specs.declared.statement.Block.{Block}
use Rattle.mpl_mean.specs.Meaning.BodyMeaning.{member_of_classes, member_or}
use Rattle.mpl_mean.specs.Meaning.Layout.{Class, Member, class_named, classes_from, formals_of, is_regular, member_named, member_numbered, members_from, state_of}
use Rattle.mpl_mean.specs.TypeRules.ProgramNodes.{declared_name}
use Rattle.mpl_mean.specs.TypeRules.Scopes.{Surrounding}
use Rattle.mpl_mean.specs.Laws.Sizes.{Every}
use Rattle.mpl_mean.specs.TypeRules.Types.{AClass, AStruct, meant_by}
use Rattle.mpl_mean.proofs.Sizes.SizedRules.{WellClass, WellDeclaration}
use Rattle.mpl_mean.proofs.Truth.{or_left, or_right, some_is}

pub bytes_same : (a b : List ℕ) → bytes_eq a b ≡ true → a ≡ b
bytes_same a b e = (bytes_eq-Decides a b).0 e

pub bytes_itself : (a : List ℕ) → bytes_eq a a ≡ true
bytes_itself a = (bytes_eq-Decides a a).1 refl

-- each name differs from those before
abbrev pub NamesDiffer : List (List ℕ) → List Declaration → Type 0
NamesDiffer earlier [] = Unit {0}
NamesDiffer earlier (d ∷ ds) = (list_any (bytes_eq (declared_name d).text) earlier ≡ false) × NamesDiffer (earlier ++ (declared_name d).text ∷ []) ds

pub among_more : (name : List ℕ) (earlier more : List (List ℕ)) → list_any (bytes_eq name) earlier ≡ true → list_any (bytes_eq name) (earlier ++ more) ≡ true
among_more name earlier more h = list_any-append (bytes_eq name) earlier more ∙ or_left _ _ h

among_last : (name : List ℕ) (earlier : List (List ℕ)) → list_any (bytes_eq name) (earlier ++ name ∷ []) ≡ true
among_last name earlier = list_any-append (bytes_eq name) earlier (name ∷ []) ∙ or_right _ _ (or_left _ false (bytes_itself name))

-- ---- members

pub none_above : (k id : ℕ) (items : List Item) → id + length (members_from id items) ≤ k → member_numbered k (members_from id items) ≡ None
none_above k id [] h = refl
none_above k id (item.OfField at field ∷ items) h = none_above k id items h
none_above k id (item.Member at result name formals body ∷ items) h = chosen (nat_eq id k) refl (none_above k (id + 1) items (omega arith)) where
  chosen : (b : Bool) → nat_eq id k ≡ b → member_numbered k (members_from (id + 1) items) ≡ None
      → (if b then Some (record { id = id; name = name.text; result = result; formals = formals_of formals; body = body }) else member_numbered k (members_from (id + 1) items)) ≡ None
  chosen true e i = absurd (let j : id ≡ k = grind (arith, nat_tests) in omega arith)
  chosen false e i = i
none_above k id (item.Select at line entries ∷ items) h = none_above k id items h
none_above k id (item.Public at ∷ items) h = none_above k id items h
none_above k id (item.Private at ∷ items) h = none_above k id items h
none_above k id (item.Empty at ∷ items) h = none_above k id items h

abbrev pub member_at : ℕ → ResultType → Name → Option Formals → Block → Member
member_at id result member formals body = record { id = id; name = member.text; result = result; formals = formals_of formals; body = body }

abbrev pub class_declared : ℕ → ℕ → Kind → Name → List Item → Class
class_declared number id kind class items = record { number = number; name = class.text; is_regular = is_regular kind; state = state_of items; members = members_from id items }

-- the member of a name has a number in its class, and is what is found by it
pub record HasNumber (id : ℕ) (items : List Item) (m : Member) : Type 0 where
  pub least : id ≤ m.id
  pub most : m.id < id + length (members_from id items)
  pub found : member_numbered m.id (members_from id items) ≡ Some m

pub same_number : (id : ℕ) → nat_eq id id ≡ true
same_number id = grind (arith, nat_tests)

pub other_number : (id k : ℕ) → id < k → nat_eq id k ≡ false
other_number id k h = grind (arith, nat_tests)

pub named_number : (name : List ℕ) (id : ℕ) (items : List Item) (m : Member) → member_named name (members_from id items) ≡ Some m → HasNumber id items m
named_number name id [] m e = absurd cc
named_number name id (item.OfField at field ∷ items) m e = let h = named_number name id items m e in record { least = h.least; most = h.most; found = h.found }
named_number name id (item.Member at result member formals body ∷ items) m e = chosen (bytes_eq member.text name) e (named_number name (id + 1) items m) where
  chosen : (b : Bool) → (if b then Some (member_at id result member formals body) else member_named name (members_from (id + 1) items)) ≡ Some m
      → (member_named name (members_from (id + 1) items) ≡ Some m → HasNumber (id + 1) items m) → HasNumber id (item.Member at result member formals body ∷ items) m
  chosen true e k =
      subst (λ m. HasNumber id (item.Member at result member formals body ∷ items) m) (some_is e) (record {
        least = omega arith;
        most = omega arith;
        found = ap (λ b. if b then Some (member_at id result member formals body) else member_numbered id (members_from (id + 1) items)) (same_number id);
      })
  chosen false e k =
      let h = k e in
      let least = h.least in
      let most = h.most in
      record {
        least = omega arith;
        most = omega arith;
        found = ap (λ b. if b then Some (member_at id result member formals body) else member_numbered m.id (members_from (id + 1) items)) (other_number id m.id (omega arith)) ∙ h.found;
      }
named_number name id (item.Select at line entries ∷ items) m e = let h = named_number name id items m e in record { least = h.least; most = h.most; found = h.found }
named_number name id (item.Public at ∷ items) m e = let h = named_number name id items m e in record { least = h.least; most = h.most; found = h.found }
named_number name id (item.Private at ∷ items) m e = let h = named_number name id items m e in record { least = h.least; most = h.most; found = h.found }
named_number name id (item.Empty at ∷ items) m e = let h = named_number name id items m e in record { least = h.least; most = h.most; found = h.found }

-- ---- classes

-- the class of a name that stands for one
pub record ClassFound (whole : List Declaration) (name : List ℕ) (regular : Bool) (items : List Item) (number id : ℕ) (ds : List Declaration) : Type 0 where
  pub class : Class
  pub first : ℕ
  pub found : class_named name (classes_from number id ds) ≡ Some class
  pub is_regular : class.is_regular ≡ regular
  pub members : class.members ≡ members_from first items
  pub numbered : (member : List ℕ) (m : Member) → member_named member class.members ≡ Some m → (id ≤ m.id) × (member_of_classes m.id (classes_from number id ds) ≡ Some (class, m))
  pub right : WellClass whole (record { name = name; is_regular = regular; items = items })

class_is : {n m : List ℕ} {a b : Bool} {is js : List Item} → AClass n a is ≡ AClass m b js → (a ≡ b) × (is ≡ js)
class_is e = (cc, cc)

pub class_found : (whole : List Declaration) (name meant : List ℕ) (regular : Bool) (items : List Item) (number id : ℕ) (earlier : List (List ℕ)) (ds : List Declaration)
    → NamesDiffer earlier ds → Every (WellDeclaration whole) ds → meant_by name ds ≡ AClass meant regular items → ClassFound whole name regular items number id ds
class_found whole name meant regular items number id earlier [] n w e = absurd cc
class_found whole name meant regular items number id earlier (declaration.Struct at line struct fields ∷ ds) n w e =
    chosen (bytes_eq struct.text name) refl e (class_found whole name meant regular items number id (earlier ++ struct.text ∷ []) ds n.1 w.1) where
      chosen : (b : Bool) → bytes_eq struct.text name ≡ b → (if b then AStruct name fields else meant_by name ds) ≡ AClass meant regular items
          → (meant_by name ds ≡ AClass meant regular items → ClassFound whole name regular items number id ds)
          → ClassFound whole name regular items number id (declaration.Struct at line struct fields ∷ ds)
      chosen true i e k = absurd cc
      chosen false i e k =
          let h = k e in
          record {
            class = h.class;
            first = h.first;
            found = h.found;
            is_regular = h.is_regular;
            members = h.members;
            numbered = h.numbered;
            right = h.right;
          }
class_found whole name meant regular items number id earlier (declaration.Class at line kind class others ∷ ds) n w e =
    chosen (bytes_eq class.text name) refl e (class_found whole name meant regular items (number + 1) (id + length (members_from id others)) (earlier ++ class.text ∷ []) ds n.1 w.1) where
      chosen : (b : Bool) → bytes_eq class.text name ≡ b → (if b then AClass name (is_regular kind) others else meant_by name ds) ≡ AClass meant regular items
          → (meant_by name ds ≡ AClass meant regular items → ClassFound whole name regular items (number + 1) (id + length (members_from id others)) ds)
          → ClassFound whole name regular items number id (declaration.Class at line kind class others ∷ ds)
      chosen true i e k =
          let same = bytes_same class.text name i in
          let is = class_is e in
          record {
            class = (class_declared number id kind class others);
            first = id;
            found = ap (λ b. if b then Some (class_declared number id kind class others) else class_named name (classes_from (number + 1) (id + length (members_from id others)) ds)) i;
            is_regular = is.0;
            members = ap (members_from id) is.1;
            numbered = λ member m j.
                let h = named_number member id others m j in
                (h.least, ap (λ f. member_or (class_declared number id kind class others) f (member_of_classes m.id (classes_from (number + 1) (id + length (members_from id others)) ds))) h.found);
            right = subst (λ (s : Surrounding). WellClass whole s) (ap (λ w. record { name = w; is_regular = is_regular kind; items = others }) same
                ∙ (ap (λ r. record { name = name; is_regular = r; items = others }) is.0 ∙ ap (λ k. record { name = name; is_regular = regular; items = k }) is.1)) w.0;
          }
      chosen false i e k =
          let h = k e in
          record {
            class = h.class;
            first = h.first;
            found = ap (λ b. if b then Some (class_declared number id kind class others) else class_named name (classes_from (number + 1) (id + length (members_from id others)) ds)) i ∙ h.found;
            is_regular = h.is_regular;
            members = h.members;
            numbered = λ member m j.
                let q = h.numbered member m j in
                let least = q.0 in
                (omega arith, ap (λ f. member_or (class_declared number id kind class others) f (member_of_classes m.id (classes_from (number + 1) (id + length (members_from id others)) ds))) (none_above m.id id others least) ∙ q.1);
            right = h.right;
          }
class_found whole name meant regular items number id earlier (declaration.Function at result function formals body ∷ ds) n w e =
    let h = class_found whole name meant regular items number id (earlier ++ function.text ∷ []) ds n.1 w.1 e in
    record {
      class = h.class;
      first = h.first;
      found = h.found;
      is_regular = h.is_regular;
      members = h.members;
      numbered = h.numbered;
      right = h.right;
    }
