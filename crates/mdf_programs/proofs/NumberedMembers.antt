-- Each member of an image is one of its program, by its number.
use Rattle.std.proofs.Common.{◌≡◌, ◌+◌, ◌⊎◌, ℕ, zero, suc, Bool, true, false, cond, List, [], ◌∷◌, ◌++◌, length, map, slice_get, Option, Some, None, refl, sym, ap, ◌∙◌, subst, arith, inl, inr}
use Rattle.std.proofs.lemmas.List.{length-map}
use Rattle.std.proofs.lemmas.Option.{slice_get-map}
use Rattle.std.specs.Option.{option_map}
use Rattle.std.specs.Prelude.{nat_eq}
use Rattle.mpl_ast.specs.declared.class.Item.{Item}
use Rattle.mpl_ast.specs.declared.class.Item.TheVariants as item
use Rattle.mpl_ast.specs.declared.program.Declaration.{Declaration}
use Rattle.mpl_ast.specs.declared.program.Declaration.TheVariants as declaration
use Rattle.mpl_ast.specs.declared.program.Program.{Program}
use Rattle.mpl_mean.specs.Laws.Sizes.{Every}
use Rattle.mpl_mean.specs.Meaning.BodyMeaning.{member_of_classes, member_or}
use Rattle.mpl_mean.specs.Meaning.Layout.{Class, Member, classes_from, classes_of, formals_of, is_regular, member_numbered, members_from, state_of}
use Rattle.mpl_mean.proofs.Sizes.SizedClasses.{same_number}
use Rattle.mdf_code.specs.declared.raw.RawMember.{RawMember}
use Rattle.mpl_gen_code.specs.ProgramImage.{image_of, member_image, members_image}

-- ---- lists

-- what stands in one list behind another
got_in : {A : Type 0} (xs ys : List A) (at : ℕ) (y : A) → slice_get (xs ++ ys) at ≡ Some y → (slice_get xs at ≡ Some y) ⊎ ((k : ℕ) × (at ≡ length xs + k) × (slice_get ys k ≡ Some y))
got_in [] ys at y e = inr (at, omega arith, e)
got_in (x ∷ xs) ys zero y e = inl e
got_in (x ∷ xs) ys (suc at) y e = one_up (got_in xs ys at y e) where
  one_up : (slice_get xs at ≡ Some y) ⊎ ((k : ℕ) × (at ≡ length xs + k) × (slice_get ys k ≡ Some y)) → (slice_get (x ∷ xs) (suc at) ≡ Some y) ⊎ ((k : ℕ) × (suc at ≡ length (x ∷ xs) + k) × (slice_get ys k ≡ Some y))
  one_up (inl h) = inl h
  one_up (inr h) = inr (h.0, omega (arith, h.1), h.2)

got_of : {A B : Type 0} (f : A → B) (xs : List A) (at : ℕ) (y : B) → slice_get (map f xs) at ≡ Some y → (x : A) × (slice_get xs at ≡ Some x)
got_of f xs at y e = by_option (slice_get xs at) refl (sym (slice_get-map f xs at) ∙ e) where
  by_option : (o : Option _) → slice_get xs at ≡ o → option_map f o ≡ Some y → (x : _) × (slice_get xs at ≡ Some x)
  by_option None is h = absurd (cc h)
  by_option (Some x) is h = (x, is)

-- ---- members of a class

numbered : (k first : ℕ) (items : List Item) (at : ℕ) (m : Member) → slice_get (members_from first items) at ≡ Some m → first + at ≡ k → (o : Member) × (member_numbered k (members_from first items) ≡ Some o)
numbered k first [] at m e is = absurd cc
numbered k first (item.OfField node field ∷ items) at m e is = numbered k first items at m e is
numbered k first (item.Member node result name formals body ∷ items) at m e is = by_test (nat_eq first k) refl at e is (λ at e is. numbered k (first + 1) items at m e is) where
  here : Member
  here = record { id = first; name = name.text; result = result; formals = formals_of formals; body = body }

  by_test : (b : Bool) → nat_eq first k ≡ b → (at : ℕ) → slice_get (here ∷ members_from (first + 1) items) at ≡ Some m → first + at ≡ k
      → ((at : ℕ) → slice_get (members_from (first + 1) items) at ≡ Some m → first + 1 + at ≡ k → (o : Member) × (member_numbered k (members_from (first + 1) items) ≡ Some o))
      → (o : Member) × (cond b (Some here) (member_numbered k (members_from (first + 1) items)) ≡ Some o)
  by_test true test at e is again = (here, refl)
  by_test false test zero e is again = absurd (let same : first ≡ k = omega (arith, is) in let itself : nat_eq first k ≡ true = sym (ap (nat_eq first) same) ∙ same_number first in cc (test, itself))
  by_test false test (suc at) e is again = again at e (omega (arith, is))
numbered k first (item.Select node line entries ∷ items) at m e is = numbered k first items at m e is
numbered k first (item.Public node ∷ items) at m e is = numbered k first items at m e is
numbered k first (item.Private node ∷ items) at m e is = numbered k first items at m e is
numbered k first (item.Empty node ∷ items) at m e is = numbered k first items at m e is

-- ---- members of all classes

module _ (ds : List Declaration) (marks : ℕ → Bool) where
  abbrev Found : ℕ → List Class → Type 0
  Found k classes = (found : Class × Member) × (member_of_classes k classes ≡ Some found)

  member_found : (number first k : ℕ) (rest : List Declaration) (at : ℕ) (raw : RawMember) → slice_get (members_image ds marks (classes_from number first rest)) at ≡ Some raw → first + at ≡ k → Found k (classes_from number first rest)
  member_found number first k [] at raw e is = absurd cc
  member_found number first k (declaration.Struct node line struct fields ∷ rest) at raw e is = member_found number first k rest at raw e is
  member_found number first k (declaration.Function node result function formals body ∷ rest) at raw e is = member_found number first k rest at raw e is
  member_found number first k (declaration.Class node line kind name items ∷ rest) at raw e is =
      by_member (member_numbered k (members_from first items)) refl (λ at e is. member_found (number + 1) (first + length (members_from first items)) k rest at raw e is) where
        here : Class
        here = record { number = number; name = name.text; is_regular = is_regular kind; state = state_of items; members = members_from first items }

        others : List Class
        others = classes_from (number + 1) (first + length (members_from first items)) rest

        others_found : Found k others → Found k (here ∷ others)
        others_found f = by_here (member_numbered k (members_from first items)) where
          by_here : (o : Option Member) → (found : Class × Member) × (member_or here o (member_of_classes k others) ≡ Some found)
          by_here None = f
          by_here (Some m) = ((here, m), refl)

        by_member : (o : Option Member) → member_numbered k (members_from first items) ≡ o
            → ((at : ℕ) → slice_get (members_image ds marks others) at ≡ Some raw → first + length (members_from first items) + at ≡ k → Found k others)
            → Found k (here ∷ others)
        by_member (Some m) same again = ((here, m), ap (λ o. member_or here o (member_of_classes k others)) same)
        by_member None same again = by_place (got_in (map (member_image ds marks here) (members_from first items)) (members_image ds marks others) at raw e) where
          by_place : (slice_get (map (member_image ds marks here) (members_from first items)) at ≡ Some raw)
              ⊎ ((j : ℕ) × (at ≡ length (map (member_image ds marks here) (members_from first items)) + j) × (slice_get (members_image ds marks others) j ≡ Some raw)) → Found k (here ∷ others)
          by_place (inl h) =
              let m = got_of (member_image ds marks here) (members_from first items) at raw h in
              let n = numbered k first items at m.0 m.1 is in absurd (cc (same, n.1))
          by_place (inr h) = others_found (again h.0 h.2 (let long = length-map (members_from first items) (member_image ds marks here) in omega (arith, is, h.1, long)))

-- a member of the image is one of the program
pub found_member : (p : Program) (marks : ℕ → Bool) (id : ℕ) (raw : RawMember) → slice_get (image_of p marks).members id ≡ Some raw → (found : Class × Member) × (member_of_classes id (classes_of p.declarations) ≡ Some found)
found_member p marks id raw e = member_found p.declarations marks 0 0 id p.declarations id raw e (omega arith)

-- what holds of each class holds of the class of a member
pub of_member : (P : Class → Type 0) (id : ℕ) (classes : List Class) → Every P classes → (class : Class) (m : Member) → member_of_classes id classes ≡ Some (class, m) → P class
of_member P id [] all class m e = absurd cc
of_member P id (c ∷ classes) all class m e = by_member (member_numbered id c.members) e (of_member P id classes all.1 class m) where
  first_is : {a b : Class × Member} → ◌≡◌ {A = Option (Class × Member)} (Some a) (Some b) → a ≡ b
  first_is h = cc h

  by_member : (o : Option Member) → member_or c o (member_of_classes id classes) ≡ Some (class, m) → (member_of_classes id classes ≡ Some (class, m) → P class) → P class
  by_member None e again = again e
  by_member (Some own) e again = subst (λ (f : Class × Member). P f.0) (first_is e) all.0
