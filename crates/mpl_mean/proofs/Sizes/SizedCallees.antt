-- The member that is called on a target, as the type rules see it and as it is found in its class.
use Rattle.std.proofs.Common.{◌≡◌, ℕ, ◌+◌, Bool, true, false, List, [], ◌∷◌, Option, Some, None, if◌then◌else◌, refl, sym, ap, subst, ◌∙◌}
use Rattle.std.specs.Option.{option_map}
use Rattle.std.specs.Prelude.{is_some}
use Rattle.std.specs.Str.{bytes_eq}
use Rattle.mpl_ast.specs.declared.class.Item.{Item}
use Rattle.mpl_ast.specs.declared.class.Item.TheVariants as item
use Rattle.mpl_ast.specs.declared.program.Declaration.{Declaration}
use Rattle.mpl_ast.specs.declared.program.Declaration.TheVariants as declaration
use Rattle.mpl_ast.specs.declared.statement.Dimension.{Dimension}
use Rattle.mpl_ast.specs.declared.statement.TypeName.{TypeName}
use Rattle.mpl_ast.specs.declared.statement.TypeName.TheVariants as type
use Rattle.mpl_mean.specs.TypeRules.CallRules.{can_be_called}
use Rattle.mpl_mean.specs.Meaning.Layout.{Class, Member, class_named, class_of_type, classes_of, is_regular, member_named, members_from, state_of}
use Rattle.mpl_mean.specs.TypeRules.Scopes.{Surrounding}
use Rattle.mpl_mean.specs.Laws.Sizes.{Every}
use Rattle.mpl_mean.specs.TypeRules.Types.{AClass, ABool, AnInt, AStruct, Declared, Meant, OfBool, OfClass, OfInt, OfStruct, Role, Shape, AnArray, ARegular, OneValue, ValueType, is_field, is_local, meant, meant_by, shape_of, shape_of_meant, shape_with, value_type}
use Rattle.mpl_mean.specs.TypeRules.Types as types
use Rattle.mpl_mean.specs.TypeRules.Typing.{items_called, items_of_meant, member_of}
use Rattle.mpl_mean.proofs.Sizes.SizedAnswers.{IsMember}
use Rattle.mpl_mean.proofs.Sizes.SizedClasses.{ClassFound}
use Rattle.mpl_mean.proofs.Sizes.SizedRules.{WellItem, WellMember}
use Rattle.mpl_mean.proofs.Sizes.SizedSettings.{CalleesMatch, RegularFits}
use Rattle.mpl_mean.proofs.Sizes.SizedTypes.{WellProgram, class_of, not_bool, not_int, value_of_shape}
use Rattle.mpl_mean.proofs.Truth.{some_is}

-- ---- members with other numbers

-- the same member, but for its number
abbrev pub Alike : Option Member → Option Member → Type 0
Alike None None = Unit {0}
Alike None (Some m) = ⊥
Alike (Some n) None = ⊥
Alike (Some n) (Some m) = (m.formals ≡ n.formals) × (m.result ≡ n.result)

alike_chosen : (b : Bool) (m n : Member) (x y : Option Member) → Alike (Some m) (Some n) → Alike x y → Alike (if b then Some m else x) (if b then Some n else y)
alike_chosen true m n x y h k = h
alike_chosen false m n x y h k = k

pub members_alike : (name : List ℕ) (i j : ℕ) (items : List Item) → Alike (member_named name (members_from i items)) (member_named name (members_from j items))
members_alike name i j [] = tt
members_alike name i j (item.OfField at field ∷ items) = members_alike name i j items
members_alike name i j (item.Member at result member formals body ∷ items) = alike_chosen (bytes_eq member.text name) _ _ _ _ (refl, refl) (members_alike name (i + 1) (j + 1) items)
members_alike name i j (item.Select at line entries ∷ items) = members_alike name i j items
members_alike name i j (item.Public at ∷ items) = members_alike name i j items
members_alike name i j (item.Private at ∷ items) = members_alike name i j items
members_alike name i j (item.Empty at ∷ items) = members_alike name i j items

pub member_well : (ds : List Declaration) (class : Surrounding) (name : List ℕ) (id : ℕ) (items : List Item) (m : Member) → Every (WellItem ds class) items → member_named name (members_from id items) ≡ Some m
    → WellMember ds class m.result m.formals m.body
member_well ds class name id [] m w e = absurd cc
member_well ds class name id (item.OfField at field ∷ items) m w e = member_well ds class name id items m w.1 e
member_well ds class name id (item.Member at result member formals body ∷ items) m w e = chosen (bytes_eq member.text name) _ refl e (member_well ds class name (id + 1) items m w.1) where
  chosen : (b : Bool) (first : Member) → WellMember ds class first.result first.formals first.body ≡ WellItem ds class (item.Member at result member formals body)
      → (if b then Some first else member_named name (members_from (id + 1) items)) ≡ Some m
      → (member_named name (members_from (id + 1) items) ≡ Some m → WellMember ds class m.result m.formals m.body) → WellMember ds class m.result m.formals m.body
  chosen true first i e k = subst (λ (m : Member). WellMember ds class m.result m.formals m.body) (some_is e) (subst (λ T. T) (sym i) w.0)
  chosen false first i e k = k e
member_well ds class name id (item.Select at line entries ∷ items) m w e = member_well ds class name id items m w.1 e
member_well ds class name id (item.Public at ∷ items) m w e = member_well ds class name id items m w.1 e
member_well ds class name id (item.Private at ∷ items) m w e = member_well ds class name id items m w.1 e
member_well ds class name id (item.Empty at ∷ items) m w e = member_well ds class name id items m w.1 e

-- ---- the class of a target

class_same : {n m : List ℕ} {a b : Bool} {is js : List Item} → AClass n a is ≡ AClass m b js → n ≡ m
class_same e = cc

pub class_name : (name meant : List ℕ) (regular : Bool) (items : List Item) (ds : List Declaration) → meant_by name ds ≡ AClass meant regular items → name ≡ meant
class_name name meant regular items [] e = absurd cc
class_name name meant regular items (declaration.Struct at line struct fields ∷ ds) e = chosen (bytes_eq struct.text name) e (class_name name meant regular items ds) where
  chosen : (b : Bool) → (if b then AStruct name fields else meant_by name ds) ≡ AClass meant regular items → (meant_by name ds ≡ AClass meant regular items → name ≡ meant) → name ≡ meant
  chosen true e k = absurd cc
  chosen false e k = k e
class_name name meant regular items (declaration.Class at line kind class others ∷ ds) e = chosen (bytes_eq class.text name) e (class_name name meant regular items ds) where
  chosen : (b : Bool) → (if b then AClass name (is_regular kind) others else meant_by name ds) ≡ AClass meant regular items → (meant_by name ds ≡ AClass meant regular items → name ≡ meant) → name ≡ meant
  chosen true e k = class_same e
  chosen false e k = k e
class_name name meant regular items (declaration.Function at result function formals body ∷ ds) e = class_name name meant regular items ds e

-- what is declared is an object, or a local of a regular class
pub record ClassOf (ds : List Declaration) (t : TypeName) (s : Option Shape) : Type 0 where
  pub name : List ℕ
  pub meant : List ℕ
  pub regular : Bool
  pub items : List Item
  pub stands : meant_by name ds ≡ AClass meant regular items
  pub class : class_of_type ds t ≡ class_named name (classes_of ds)
  pub called : items_called ds s ≡ Some items
  pub object : regular ≡ false → (n : List ℕ) × (s ≡ Some (OneValue (OfClass n)))

class_value : {a b : List ℕ} → ◌≡◌ {A = Option ValueType} (Some (OfClass a)) (Some (OfClass b)) → a ≡ b
class_value e = cc

object_type : (ds : List Declaration) (role : Role) (t : TypeName) (n : List ℕ) → value_type role (meant ds t) ≡ Some (OfClass n) → ClassOf ds t (Some (OneValue (OfClass n)))
object_type ds role (type.Int at) n e = absurd cc
object_type ds role (type.Bool at) n e = absurd cc
object_type ds role (type.Named at name) n e = named (meant_by name.text ds) refl e where
  named : (m : Meant) → meant_by name.text ds ≡ m → value_type role m ≡ Some (OfClass n) → ClassOf ds (type.Named at name) (Some (OneValue (OfClass n)))
  named AnInt i e = absurd (not_int name.text ds i)
  named ABool i e = absurd (not_bool name.text ds i)
  named (AStruct k fields) i e = absurd (field (is_field role) e) where
    field : (b : Bool) → (if b then None else Some (OfStruct k)) ≡ Some (OfClass n) → ⊥
    field true e = cc
    field false e = cc
  named (AClass k true items) i e = absurd cc
  named (AClass k false items) i e =
      let same : name.text ≡ n = class_name name.text k false items ds i ∙ class_value e in
      record {
        name = name.text;
        meant = k;
        regular = false;
        items = items;
        stands = i;
        class = refl;
        called = ap (λ w. items_of_meant (meant_by w ds)) (sym same) ∙ ap items_of_meant i;
        object = λ r. (n, refl);
      }
  named types.Nothing i e = absurd cc

no_regular : (dimension : Option Dimension) (t : Option ValueType) (items : List Item) → option_map (shape_with dimension) t ≡ Some (ARegular items) → ⊥
no_regular dimension None items e = cc
no_regular None (Some t) items e = cc
no_regular (Some dimension) (Some t) items e = cc

regular_type : (ds : List Declaration) (role : Role) (dimension : Option Dimension) (t : TypeName) (items : List Item) → shape_of_meant role dimension (meant ds t) ≡ Some (ARegular items)
    → ClassOf ds t (Some (ARegular items))
regular_type ds role dimension (type.Int at) items e = absurd (no_regular dimension (Some OfInt) items e)
regular_type ds role dimension (type.Bool at) items e = absurd (no_regular dimension (Some OfBool) items e)
regular_type ds role dimension (type.Named at name) items e = named (meant_by name.text ds) refl e where
  named : (m : Meant) → meant_by name.text ds ≡ m → shape_of_meant role dimension m ≡ Some (ARegular items) → ClassOf ds (type.Named at name) (Some (ARegular items))
  named AnInt i e = absurd (no_regular dimension (Some OfInt) items e)
  named ABool i e = absurd (no_regular dimension (Some OfBool) items e)
  named (AStruct k fields) i e = absurd (no_regular dimension (value_type role (AStruct k fields)) items e)
  named (AClass k true others) i e = local (is_local role) e where
    local : (b : Bool) → (if b then Some (ARegular others) else None) ≡ Some (ARegular items) → ClassOf ds (type.Named at name) (Some (ARegular items))
    local true e = record {
      name = name.text;
      meant = k;
      regular = true;
      items = others;
      stands = i;
      class = refl;
      called = sym (ap (λ s. items_called ds s) e);
      object = λ r. absurd cc;
    }
    local false e = absurd cc
  named (AClass k false others) i e = absurd (no_regular dimension (Some (OfClass k)) items e)
  named types.Nothing i e = absurd (no_regular dimension None items e)

pub class_at : (ds : List Declaration) (d : Declared) (s : Option Shape) → shape_of ds (Some d) ≡ s → is_some s ≡ true → can_be_called s ≡ true → ClassOf ds d.type s
class_at ds d None e i h = absurd cc
class_at ds d (Some (OneValue (OfClass n))) e i h = object_type ds d.role d.type n (value_of_shape d.role d.dimension (meant ds d.type) (OfClass n) e).1
class_at ds d (Some (ARegular items)) e i h = regular_type ds d.role d.dimension d.type items e
class_at ds d (Some (OneValue OfInt)) e i h = absurd cc
class_at ds d (Some (OneValue OfBool)) e i h = absurd cc
class_at ds d (Some (OneValue (OfStruct n))) e i h = absurd cc
class_at ds d (Some (AnArray t)) e i h = absurd cc

pub class_there : {ds : List Declaration} → WellProgram ds → (t : TypeName) (s : Option Shape) → ClassOf ds t s → is_some (class_of_type ds t) ≡ true
class_there well t s k = ap is_some (k.class ∙ (class_of well k.name k.meant k.regular k.items k.stands).found)

-- ---- its member

-- what is known of a member of a class: its number, and what a call in place asks for
pub record MemberOf (ds : List Declaration) (regular : Bool) (m : Member) : Type 0 where
  pub is : IsMember ds m
  pub in_place : regular ≡ true → RegularFits ds m

found_class : {a b : Class} → ◌≡◌ {A = Option Class} (Some a) (Some b) → a ≡ b
found_class e = cc

pub callees_of : {ds : List Declaration} → WellProgram ds → (name meant : List ℕ) (regular : Bool) (items : List Item) (e : meant_by name ds ≡ AClass meant regular items) (class : Class)
    → class_named name (classes_of ds) ≡ Some class → (member : List ℕ)
    → CalleesMatch ds (MemberOf ds regular) (member_of member items) (member_named member class.members)
callees_of {ds} well name meant regular items e class i member = found (class_of well name meant regular items e) where
  join : (c : Class) (first : ℕ) (n m : Option Member) → (regular ≡ true → state_of items ≡ []) → member_named member c.members ≡ m → ((m : Member) → member_named member c.members ≡ Some m → IsMember ds m)
      → ((m : Member) → member_named member c.members ≡ Some m → WellMember ds (record { name = name; is_regular = regular; items = items }) m.result m.formals m.body)
      → Alike n m → CalleesMatch ds (MemberOf ds regular) n m
  join c first None None z j k w a = tt
  join c first None (Some m) z j k w a = absurd a
  join c first (Some n) None z j k w a = absurd a
  join c first (Some n) (Some m) z j k w a =
      let r = w m j in (
        record { formals = a.0; result = a.1; well = r.0.0; typed = r.1 },
        record { is = k m j; in_place = λ t. record { class = record { name = name; is_regular = regular; items = items }; regular = t; stateless = z t; well = r } },
      )

  found : ClassFound ds name regular items 0 0 ds → CalleesMatch ds (MemberOf ds regular) (member_of member items) (member_named member class.members)
  found f =
      subst (λ (c : Class). CalleesMatch ds (MemberOf ds regular) (member_of member items) (member_named member c.members)) (found_class (sym f.found ∙ i))
      (join f.class f.first (member_of member items) (member_named member (f.class).members) (f.right).2 refl (λ m j. (f.class, (f.numbered member m j).1))
      (λ m j. member_well ds _ member f.first items m (f.right).0 (subst (λ ms. member_named member ms ≡ Some m) f.members j))
      (subst (λ ms. Alike (member_of member items) (member_named member ms)) (sym f.members) (members_alike member 0 f.first items)))

pub regular_of : {ds : List Declaration} → WellProgram ds → (name meant : List ℕ) (regular : Bool) (items : List Item) (e : meant_by name ds ≡ AClass meant regular items) (class : Class)
    → class_named name (classes_of ds) ≡ Some class → class.is_regular ≡ regular
regular_of {ds} well name meant regular items e class i =
    let f = class_of well name meant regular items e in
    subst (λ (c : Class). c.is_regular ≡ regular) (found_class (sym f.found ∙ i)) f.is_regular
