-- The entries of a class name members of that class.
use Rattle.std.proofs.Common.{◌≡◌, ℕ, zero, suc, ◌+◌, ◌<◌, ◌≤◌, List, [], ◌∷◌, length, map, Option, Some, None, if◌then◌else◌, ℤ, pos, negsuc, refl, sym, ap, ◌∙◌, subst, arith}
use Rattle.std.specs.Option.{option_map}
use Rattle.std.specs.Prelude.{slice_get}
use Rattle.mpl_ast.specs.declared.class.Entry.{Entry}
use Rattle.mpl_ast.specs.declared.class.Item.{Item}
use Rattle.mpl_ast.specs.declared.class.Item.TheVariants as item
use Rattle.mpl_ast.specs.declared.expression.Expression.{Expression}
use Rattle.mpl_ast.specs.declared.program.Declaration.{Declaration}
use Rattle.mpl_ast.specs.declared.program.Declaration.TheVariants as declaration
use Rattle.mpl_ast.specs.declared.program.Program.{Program}
use Rattle.mpl_mean.specs.Laws.Sizes.{Every}
use Rattle.mpl_mean.specs.Meaning.BodyMeaning.{member_of_classes, member_or}
use Rattle.mpl_mean.specs.Meaning.ExpressionMeaning.{value_of}
use Rattle.mpl_mean.specs.Meaning.Layout.{Class, Member, classes_from, classes_of, member_named, member_numbered, members_from, natural}
use Rattle.mpl_mean.proofs.Sizes.SizedClasses.{HasNumber, class_declared, member_at, named_number, none_above, other_number, same_number}
use Rattle.mpl_mean.proofs.Truth.{some_is}
use Rattle.mdf_mean.specs.Fits.{IsOf}
use Rattle.mdf_mean.specs.Guards.{choice_of, choices_in, class_at, class_choices, items_at, select_in, selected, with_choice}
use Rattle.mdf_mean.specs.Language.{language, sizes_of}
use Rattle.mdf_mean.specs.Meanings.{Choice}
use Rattle.mdf_mean.specs.LawfulLanguage.Facts.{every_map}
use Rattle.mdf_mean.specs.LawfulLanguage.MemberWords.{class_placed}

-- ---- members by their numbers

-- a member of the items behind one more is one of all
one_before : (id : ℕ) (i : Item) (items : List Item) (m : Member) → members_from id (i ∷ items) ≡ members_from id items → HasNumber id items m → HasNumber id (i ∷ items) m
one_before id i items m e h =
    record {
      least = h.least;
      most = subst (λ ms. m.id < id + length ms) (sym e) h.most;
      found = subst (λ ms. member_numbered m.id ms ≡ Some m) (sym e) h.found;
    }

pub members_numbered : (id : ℕ) (items : List Item) → Every (HasNumber id items) (members_from id items)
members_numbered id [] = tt
members_numbered id (item.OfField at field ∷ items) = every_map _ _ (λ m. one_before id (item.OfField at field) items m refl) (members_from id items) (members_numbered id items)
members_numbered id (item.Member at result member formals body ∷ items) =
    let first = member_at id result member formals body in (
      record {
        least = omega arith;
        most = omega arith;
        found = ap (λ b. if b then Some first else member_numbered id (members_from (id + 1) items)) (same_number id);
      },
      every_map (HasNumber (id + 1) items) (HasNumber id (item.Member at result member formals body ∷ items)) (λ m h.
          let least = h.least in
          let most = h.most in
          record {
            least = omega arith;
            most = omega arith;
            found = ap (λ b. if b then Some first else member_numbered m.id (members_from (id + 1) items)) (other_number id m.id (omega arith)) ∙ h.found;
          }) (members_from (id + 1) items) (members_numbered (id + 1) items),
    )
members_numbered id (item.Select at line entries ∷ items) = every_map _ _ (λ m. one_before id (item.Select at line entries) items m refl) (members_from id items) (members_numbered id items)
members_numbered id (item.Public at ∷ items) = every_map _ _ (λ m. one_before id (item.Public at) items m refl) (members_from id items) (members_numbered id items)
members_numbered id (item.Private at ∷ items) = every_map _ _ (λ m. one_before id (item.Private at) items m refl) (members_from id items) (members_numbered id items)
members_numbered id (item.Empty at ∷ items) = every_map _ _ (λ m. one_before id (item.Empty at) items m refl) (members_from id items) (members_numbered id items)

-- the members of a class are found by their numbers, with their class
record Placed (number id : ℕ) (ds : List Declaration) (class : Class) : Type 0 where
  first : ℕ
  items : List Item
  members : class.members ≡ members_from first items
  numbered : (m : Member) → HasNumber first items m → (id ≤ m.id) × (member_of_classes m.id (classes_from number id ds) ≡ Some (class, m))

placed : (number id : ℕ) (ds : List Declaration) (n : ℕ) (class : Class) → slice_get (classes_from number id ds) n ≡ Some class → Placed number id ds class
placed number id [] n class e = absurd cc
placed number id (declaration.Struct at line name fields ∷ ds) n class e = let r = placed number id ds n class e in record { first = r.first; items = r.items; members = r.members; numbered = r.numbered }
placed number id (declaration.Class at line kind name items ∷ ds) zero class e =
    subst (Placed number id (declaration.Class at line kind name items ∷ ds)) (some_is e) (record {
      first = id;
      items = items;
      members = refl;
      numbered = λ m h.
          (h.least, ap (λ f. member_or (class_declared number id kind name items) f (member_of_classes m.id (classes_from (number + 1) (id + length (members_from id items)) ds))) h.found);
    })
placed number id (declaration.Class at line kind name items ∷ ds) (suc n) class e =
    let r = placed (number + 1) (id + length (members_from id items)) ds n class e in
    record {
      first = r.first;
      items = r.items;
      members = r.members;
      numbered = λ m h.
          let q = r.numbered m h in
          let least = q.0 in
          (omega arith, ap (λ f. member_or (class_declared number id kind name items) f (member_of_classes m.id (classes_from (number + 1) (id + length (members_from id items)) ds))) (none_above m.id id items least) ∙ q.1);
    }
placed number id (declaration.Function at result name formals body ∷ ds) n class e = let r = placed number id ds n class e in record { first = r.first; items = r.items; members = r.members; numbered = r.numbered }

-- ---- entries

module _ (p : Program) (n : ℕ) (class : Class) (is : slice_get (classes_of p.declarations) n ≡ Some class) where
  abbrev OfClass : Choice → Type 0
  OfClass choice = IsOf (pos n) ((language p).sizes choice.member)

  place : Placed 0 0 p.declarations class
  place = placed 0 0 p.declarations n class is

  member_of : (m : Member) → HasNumber place.first place.items m → IsOf (pos n) ((language p).sizes (record { 0 = m.id }))
  member_of m h =
      let number = class_placed 0 0 p.declarations n class is in
      subst (λ found. IsOf (pos n) (option_map (sizes_of p.declarations) found)) (sym (place.numbered m h).1) (ap pos (omega (arith, number)))

  named_member : (name : List ℕ) (m : Member) → member_named name class.members ≡ Some m → IsOf (pos n) ((language p).sizes (record { 0 = m.id }))
  named_member name m e = member_of m (named_number name place.first place.items m (subst (λ ms. member_named name ms ≡ Some m) place.members e))

  with_choice_of : (priority : ℕ) (guard : Option Expression) (member : Option Member) (others : List Choice) → ((m : Member) → member ≡ Some m → IsOf (pos n) ((language p).sizes (record { 0 = m.id }))) → Every OfClass others
      → Every OfClass (with_choice value_of p.declarations class priority guard member others)
  with_choice_of priority guard None others h r = r
  with_choice_of priority guard (Some m) others h r = (h m refl, r)

  selected_of : (entries : List Entry) → Every OfClass (selected value_of p.declarations class entries)
  selected_of [] = tt
  selected_of (entry ∷ entries) =
      with_choice_of (natural entry.priority.value) entry.guard (member_named entry.member.text class.members) (selected value_of p.declarations class entries) (λ m e. named_member entry.member.text m e) (selected_of entries)

  mapped : (ms : List Member) → Every (HasNumber place.first place.items) ms → Every OfClass (map (choice_of value_of p.declarations class 0 None) ms)
  mapped [] h = tt
  mapped (m ∷ ms) h = (member_of m h.0, mapped ms h.1)

  all_members : Every OfClass (map (choice_of value_of p.declarations class 0 None) class.members)
  all_members = mapped class.members (subst (Every (HasNumber place.first place.items)) (sym place.members) (members_numbered place.first place.items))

  choices_of_class : (entries : Option (List Entry)) → Every OfClass (class_choices value_of p.declarations class entries)
  choices_of_class None = all_members
  choices_of_class (Some entries) = selected_of entries

pub entries_of_class : (p : Program) (class : ℤ) → Every (λ (choice : Choice). IsOf class ((language p).sizes choice.member)) ((language p).choices class)
entries_of_class p (negsuc n) = tt
entries_of_class p (pos n) = by_class (class_at p.declarations (pos n)) refl where
  by_class : (class : Option Class) → slice_get (classes_of p.declarations) n ≡ class
      → Every (λ (choice : Choice). IsOf (pos n) ((language p).sizes choice.member)) (choices_in value_of p.declarations (items_at n p.declarations) class)
  by_class None e = tt
  by_class (Some class) e = choices_of_class p n class e (select_in (items_at n p.declarations))
