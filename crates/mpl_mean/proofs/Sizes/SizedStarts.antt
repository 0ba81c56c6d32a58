-- The body that a start names, and what is known of it.
use Rattle.std.proofs.Common.{◌≡◌, ℕ, ◌+◌, ◌≤◌, Bool, true, false, ◌||◌, List, [], ◌∷◌, ◌++◌, length, drop, Option, Some, None, if◌then◌else◌, ℤ, refl, sym, ap, subst, ◌∙◌, true≢false, arith}
use Rattle.std.proofs.lemmas.List.{length-drop, length-take-le}
use Rattle.std.proofs.lemmas.List.Folds.{list_any-append}
use Rattle.std.proofs.lemmas.List.Sums.{sum_by-cons}
use Rattle.std.specs.List.{list_any}
use Rattle.std.specs.Prelude.{codes, nat_eq}
use Rattle.std.specs.Str.{bytes_eq}
use Rattle.mpl_ast.specs.declared.class.Formal.{Formal}
use Rattle.mpl_ast.specs.declared.class.Item.{Item}
use Rattle.mpl_ast.specs.declared.class.Item.TheVariants as item
use Rattle.mpl_ast.specs.declared.program.Declaration.{Declaration}
use Rattle.mpl_ast.specs.declared.program.Declaration.TheVariants as declaration
use Rattle.mpl_mean.specs.Meaning.BodyMeaning.{member_of_classes, member_or, split_words}
use Rattle.mpl_mean.specs.Meaning.Layout.{Class, Function, Member, class_named, classes_from, formals_of, function_named, is_regular, member_numbered, members_from, state_of, words_of}
use Rattle.mpl_mean.specs.TypeRules.ProgramNodes.{function_body}
use Rattle.mpl_mean.specs.TypeRules.Scopes.{InFunction, InMain, Surrounding, is_main}
use Rattle.mpl_mean.specs.Laws.Sizes.{Every, words_of_formal, words_of_formals}
use Rattle.mpl_mean.specs.TypeRules.Types.{AClass, AStruct, meant_by}
use Rattle.mpl_mean.proofs.Sizes.SizedAnswers.{ListsFit}
use Rattle.mpl_mean.proofs.Sizes.SizedClasses.{NamesDiffer, bytes_itself, bytes_same, class_declared}
use Rattle.mpl_mean.proofs.Sizes.SizedRules.{WellClass, WellDeclaration, WellItem, WellMain, WellMember, WellRoutine}
use Rattle.mpl_mean.proofs.Truth.{some_is}

-- ---- arguments

pub split_fit : (ds : List Declaration) (formals : List Formal) (words : List ℤ) → words_of_formals ds formals ≤ length words → ListsFit ds formals (split_words ds formals words)
split_fit ds [] words h = tt
split_fit ds (formal ∷ formals) words h =
    let n = words_of ds formal.type_name None in
    let sum : words_of_formals ds (formal ∷ formals) ≡ n + words_of_formals ds formals = sum_by-cons (words_of_formal ds) formal formals in
    (length-take-le n words (omega arith), split_fit ds formals (drop n words) (omega (arith, length-drop n words)))

-- ---- `main`

no_formals : (name : List ℕ) (formals : List Formal) → is_main name ≡ true → WellMain name formals → formals ≡ []
no_formals name [] e w = refl
no_formals name (formal ∷ formals) e w = absurd (true≢false (sym e ∙ w))

pub main_of : (whole : List Declaration) (f : Function) (ds : List Declaration) → Every (WellDeclaration whole) ds → function_named (codes "main") ds ≡ Some f
    → WellRoutine whole None InMain f.formals f.body × (f.formals ≡ [])
main_of whole f [] w e = absurd cc
main_of whole f (declaration.Struct at line struct fields ∷ ds) w e = main_of whole f ds w.1 e
main_of whole f (declaration.Class at line kind class items ∷ ds) w e = main_of whole f ds w.1 e
main_of whole f (declaration.Function at result function formals body ∷ ds) w e = chosen (bytes_eq function.text (codes "main")) refl e (main_of whole f ds w.1) where
  chosen : (b : Bool) → bytes_eq function.text (codes "main") ≡ b
      → (if b then Some (record { result = result; formals = formals_of formals; body = body }) else function_named (codes "main") ds) ≡ Some f
      → (function_named (codes "main") ds ≡ Some f → WellRoutine whole None InMain f.formals f.body × (f.formals ≡ [])) → WellRoutine whole None InMain f.formals f.body × (f.formals ≡ [])
  chosen true i e k =
      let body_is : function_body function.text result ≡ InMain = ap (λ b. if b then InMain else InFunction result) i in
      subst (λ (f : Function). WellRoutine whole None InMain f.formals f.body × (f.formals ≡ [])) (some_is e)
      (subst (λ b. WellRoutine whole None b (formals_of formals) body) body_is w.0.0, no_formals function.text (formals_of formals) i w.0.2)
  chosen false i e k = k e

-- ---- members by their numbers

number_well : (ds : List Declaration) (class : Surrounding) (k id : ℕ) (items : List Item) (m : Member) → Every (WellItem ds class) items → member_numbered k (members_from id items) ≡ Some m
    → WellMember ds class m.result m.formals m.body
number_well ds class k id [] m w e = absurd cc
number_well ds class k id (item.OfField at field ∷ items) m w e = number_well ds class k id items m w.1 e
number_well ds class k id (item.Member at result member formals body ∷ items) m w e = chosen (nat_eq id k) _ w.0 e (number_well ds class k (id + 1) items m w.1) where
  chosen : (b : Bool) (first : Member) → WellMember ds class first.result first.formals first.body → (if b then Some first else member_numbered k (members_from (id + 1) items)) ≡ Some m
      → (member_numbered k (members_from (id + 1) items) ≡ Some m → WellMember ds class m.result m.formals m.body) → WellMember ds class m.result m.formals m.body
  chosen true first i e k = subst (λ (m : Member). WellMember ds class m.result m.formals m.body) (some_is e) i
  chosen false first i e k = k e
number_well ds class k id (item.Select at line entries ∷ items) m w e = number_well ds class k id items m w.1 e
number_well ds class k id (item.Public at ∷ items) m w e = number_well ds class k id items m w.1 e
number_well ds class k id (item.Private at ∷ items) m w e = number_well ds class k id items m w.1 e
number_well ds class k id (item.Empty at ∷ items) m w e = number_well ds class k id items m w.1 e

abbrev pub surrounding_of : Class → List Item → Surrounding
surrounding_of class items = record { name = class.name; is_regular = class.is_regular; items = items }

-- a class with the member of a number, as its declaration has it
pub record ClassNumbered (whole : List Declaration) (found : Class × Member) (earlier : List (List ℕ)) (number id : ℕ) (ds : List Declaration) : Type 0 where
  pub items : List Item
  pub meant : meant_by (found.0).name ds ≡ AClass (found.0).name (found.0).is_regular items
  pub named : class_named (found.0).name (classes_from number id ds) ≡ Some found.0
  pub state : (found.0).state ≡ state_of items
  pub right : WellClass whole (surrounding_of found.0 items)
  pub member : WellMember whole (surrounding_of found.0 items) (found.1).result (found.1).formals (found.1).body
  pub fresh : list_any (bytes_eq (found.0).name) earlier ≡ false

other_bytes : (a b : List ℕ) → bytes_eq a b ≡ false → bytes_eq b a ≡ false
other_bytes a b e = chosen (bytes_eq b a) refl where
  chosen : (t : Bool) → bytes_eq b a ≡ t → t ≡ false
  chosen true i = absurd (true≢false (sym (subst (λ w. bytes_eq a w ≡ true) (sym (bytes_same b a i)) (bytes_itself a)) ∙ e))
  chosen false i = refl

-- a name that differs from those before and from one more
fresh_of : (name other : List ℕ) (earlier : List (List ℕ)) → list_any (bytes_eq name) (earlier ++ other ∷ []) ≡ false → (list_any (bytes_eq name) earlier ≡ false) × (bytes_eq other name ≡ false)
fresh_of name other earlier e =
    let two = both (list_any (bytes_eq name) earlier) (bytes_eq name other || false) (sym (list_any-append (bytes_eq name) earlier (other ∷ [])) ∙ e) in
    (two.0, other_bytes name other (both (bytes_eq name other) false two.1).0) where
      both : (a b : Bool) → (a || b) ≡ false → (a ≡ false) × (b ≡ false)
      both true b e = absurd cc
      both false b e = (refl, e)

some_pair : {a b : Class × Member} → ◌≡◌ {A = Option (Class × Member)} (Some a) (Some b) → a ≡ b
some_pair e = cc

pub class_numbered : (whole : List Declaration) (k : ℕ) (found : Class × Member) (number id : ℕ) (earlier : List (List ℕ)) (ds : List Declaration) → NamesDiffer earlier ds
    → Every (WellDeclaration whole) ds → member_of_classes k (classes_from number id ds) ≡ Some found → ClassNumbered whole found earlier number id ds
class_numbered whole k found number id earlier [] n w e = absurd cc
class_numbered whole k found number id earlier (declaration.Struct at line struct fields ∷ ds) n w e =
    let h = class_numbered whole k found number id (earlier ++ struct.text ∷ []) ds n.1 w.1 e in
    let f = fresh_of (found.0).name struct.text earlier h.fresh in
    record {
      items = h.items;
      meant = ap (λ b. if b then AStruct (found.0).name fields else meant_by (found.0).name ds) f.1 ∙ h.meant;
      named = h.named;
      state = h.state;
      right = h.right;
      member = h.member;
      fresh = f.0;
    }
class_numbered whole k found number id earlier (declaration.Class at line kind class items ∷ ds) n w e =
    chosen (member_numbered k (members_from id items)) refl e (class_numbered whole k found (number + 1) (id + length (members_from id items)) (earlier ++ class.text ∷ []) ds n.1 w.1) where
      chosen : (o : Option Member) → member_numbered k (members_from id items) ≡ o
          → member_or (class_declared number id kind class items) o (member_of_classes k (classes_from (number + 1) (id + length (members_from id items)) ds)) ≡ Some found
          → (member_of_classes k (classes_from (number + 1) (id + length (members_from id items)) ds) ≡ Some found
          → ClassNumbered whole found (earlier ++ class.text ∷ []) (number + 1) (id + length (members_from id items)) ds)
          → ClassNumbered whole found earlier number id (declaration.Class at line kind class items ∷ ds)
      chosen (Some m) i e h =
          subst (λ found. ClassNumbered whole found earlier number id (declaration.Class at line kind class items ∷ ds)) (some_pair e) (record {
            items = items;
            meant = ap (λ b. if b then AClass class.text (is_regular kind) items else meant_by class.text ds) (bytes_itself class.text);
            named = ap (λ b. if b then Some (class_declared number id kind class items) else class_named class.text (classes_from (number + 1) (id + length (members_from id items)) ds)) (bytes_itself class.text);
            state = refl;
            right = w.0;
            member = number_well whole _ k id items m w.0.0 i;
            fresh = n.0;
          })
      chosen None i e h =
          let c = h e in
          let f = fresh_of (found.0).name class.text earlier c.fresh in
          record {
            items = c.items;
            meant = ap (λ b. if b then AClass (found.0).name (is_regular kind) items else meant_by (found.0).name ds) f.1 ∙ c.meant;
            named = ap (λ b. if b then Some (class_declared number id kind class items) else class_named (found.0).name (classes_from (number + 1) (id + length (members_from id items)) ds)) f.1 ∙ c.named;
            state = c.state;
            right = c.right;
            member = c.member;
            fresh = f.0;
          }
class_numbered whole k found number id earlier (declaration.Function at result function formals body ∷ ds) n w e =
    let h = class_numbered whole k found number id (earlier ++ function.text ∷ []) ds n.1 w.1 e in
    record {
      items = h.items;
      meant = h.meant;
      named = h.named;
      state = h.state;
      right = h.right;
      member = h.member;
      fresh = (fresh_of (found.0).name function.text earlier h.fresh).0;
    }
