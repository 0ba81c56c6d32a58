-- The image of a program has the code of each function and each member of it.
use Rattle.std.proofs.Common.{◌≡◌, ℕ, zero, suc, ◌+◌, Bool, false, List, [], ◌∷◌, ◌++◌, length, map, Option, Some, None, refl, ap, sym, subst, arith, ◌∙◌}
use Rattle.std.proofs.lemmas.Bool.{eqb-true}
use Rattle.std.proofs.lemmas.List.{length-map}
use Rattle.std.proofs.lemmas.Option.{slice_get-map}
use Rattle.std.specs.List.{slice_get}
use Rattle.std.specs.Option.{option_map}
use Rattle.std.specs.Prelude.{nat_eq}
use Rattle.std.specs.Str.{bytes_eq}
use Rattle.mpl_ast.specs.declared.class.Item.{Item}
use Rattle.mpl_ast.specs.declared.class.Item.TheVariants as item
use Rattle.mpl_ast.specs.declared.program.Declaration.{Declaration}
use Rattle.mpl_ast.specs.declared.program.Declaration.TheVariants as declaration
use Rattle.mpl_ast.specs.declared.program.Program.{Program}
use Rattle.mpl_mean.specs.Meaning.BodyMeaning.{member_of_classes, member_or}
use Rattle.mpl_mean.specs.Meaning.Layout.{Class, Member, class_named, classes_from, classes_of, formals_of, is_regular, member_numbered, members_from, state_of}
use Rattle.mdf_code.specs.Parts.{class_is_regular}
use Rattle.mdf_code.specs.declared.raw.RawClass.{RawClass}
use Rattle.mpl_gen_code.specs.ExpressionCode.{plain_functions}
use Rattle.mpl_gen_code.specs.Fits.{MemberIs}
use Rattle.mpl_gen_code.specs.ProgramImage.{classes_image, function_image, image_of, member_image, members_image, selects_of}
use Rattle.mpl_gen_code.proofs.Calling.{MemberStands}
use Rattle.mpl_gen_code.proofs.Compiled.{Compiled}
use Rattle.mpl_gen_code.proofs.Scoped.{got_in_front, one_of}

some_same : {A : Type 0} {a b : A} → Some a ≡ Some b → a ≡ b
some_same e = cc

-- behind the front of a list
got_behind : {A : Type 0} (front rest : List A) (n : ℕ) → slice_get (front ++ rest) (length front + n) ≡ slice_get rest n
got_behind [] rest n = ap (slice_get rest) (let e : 0 + n ≡ n = omega arith in e)
got_behind (x ∷ front) rest n = ap (slice_get (x ∷ (front ++ rest))) (let e : suc (length front) + n ≡ suc (length front + n) = omega arith in e) ∙ got_behind front rest n

-- ---- members by their numbers

-- a member of those of a class, of which the first has this number
record Numbered (id number : ℕ) (members : List Member) (m : Member) : Type 0 where
  same : m.id ≡ number
  at : ℕ
  id_is : number ≡ id + at
  stands : slice_get members at ≡ Some m

later : (id number : ℕ) (first : Member) (members : List Member) (m : Member) → Numbered (id + 1) number members m → Numbered id number (first ∷ members) m
later id number first members m n = record { same = n.same; at = suc n.at; id_is = let e = n.id_is in omega arith; stands = n.stands }

numbered : (id number : ℕ) (items : List Item) (m : Member) → member_numbered number (members_from id items) ≡ Some m → Numbered id number (members_from id items) m
numbered id number [] m e = absurd cc
numbered id number (item.OfField at field ∷ items) m e = numbered id number items m e
numbered id number (item.Member at result name formals body ∷ items) m e =
    one_of (Numbered id number (first ∷ members_from (id + 1) items) m) (nat_eq id number) (Some first) (member_numbered number (members_from (id + 1) items)) (Some m) e
    (λ b this. let same : id ≡ number = eqb-true id number b in record { same = sym (ap Member.id (some_same this)) ∙ same; at = 0; id_is = omega (arith, same); stands = this })
    (λ b rest. later id number first (members_from (id + 1) items) m (numbered (id + 1) number items m rest)) where
      first : Member
      first = record { id = id; name = name.text; result = result; formals = formals_of formals; body = body }
numbered id number (item.Select at line entries ∷ items) m e = numbered id number items m e
numbered id number (item.Public at ∷ items) m e = numbered id number items m e
numbered id number (item.Private at ∷ items) m e = numbered id number items m e
numbered id number (item.Empty at ∷ items) m e = numbered id number items m e

module _ (ds : List Declaration) (marks : ℕ → Bool) where
  -- a member among those of all classes, and its class among these
  record Placed (number first id : ℕ) (classes : List Class) (class : Class) (m : Member) : Type 0 where
    same : m.id ≡ id
    at : ℕ
    id_is : id ≡ first + at
    stands : slice_get (members_image ds marks classes) at ≡ Some (member_image ds marks class m)
    class_at : ℕ
    number_is : class.number ≡ number + class_at
    class_stands : slice_get classes class_at ≡ Some class

  in_first : (number first id : ℕ) (items : List Item) (class : Class) (others : List Class) (m : Member) → class.number ≡ number → class.members ≡ members_from first items
      → member_numbered id (members_from first items) ≡ Some m → Placed number first id (class ∷ others) class m
  in_first number first id items class others m number_is members e =
      let n = numbered first id items m e in record {
        same = n.same;
        at = n.at;
        id_is = n.id_is;
        stands =
            got_in_front (map (member_image ds marks class) class.members) (members_image ds marks others) n.at _
            (slice_get-map (member_image ds marks class) class.members n.at ∙ ap (option_map (member_image ds marks class)) (ap (λ (ms : List Member). slice_get ms n.at) members ∙ n.stands));
        class_at = 0;
        number_is = omega (arith, number_is);
        class_stands = refl;
      }

  in_others : (number first id : ℕ) (c : Class) (others : List Class) (class : Class) (m : Member) → Placed (number + 1) (first + length c.members) id others class m → Placed number first id (c ∷ others) class m
  in_others number first id c others class m p = record {
    same = p.same;
    at = length (map (member_image ds marks c) c.members) + p.at;
    id_is = let e = p.id_is in omega (arith, e, length-map c.members (member_image ds marks c));
    stands = got_behind (map (member_image ds marks c) c.members) (members_image ds marks others) p.at ∙ p.stands;
    class_at = suc p.class_at;
    number_is = let e = p.number_is in omega arith;
    class_stands = p.class_stands;
  }

  placed : (number first id : ℕ) (rest : List Declaration) (class : Class) (m : Member) → member_of_classes id (classes_from number first rest) ≡ Some (class, m) → Placed number first id (classes_from number first rest) class m
  placed number first id [] class m e = absurd cc
  placed number first id (declaration.Struct at line struct fields ∷ rest) class m e = placed number first id rest class m e
  placed number first id (declaration.Function at result function formals body ∷ rest) class m e = placed number first id rest class m e
  placed number first id (declaration.Class at line kind name items ∷ rest) class m e = by_member (member_numbered id (members_from first items)) refl e (placed (number + 1) (first + length (members_from first items)) id rest class m) where
    here : Class
    here = record { number = number; name = name.text; is_regular = is_regular kind; state = state_of items; members = members_from first items }

    others : List Class
    others = classes_from (number + 1) (first + length (members_from first items)) rest

    by_member : (o : Option Member) → member_numbered id (members_from first items) ≡ o → member_or here o (member_of_classes id others) ≡ Some (class, m)
        → (member_of_classes id others ≡ Some (class, m) → Placed (number + 1) (first + length (members_from first items)) id others class m) → Placed number first id (here ∷ others) class m
    by_member None is e rest_placed = in_others number first id here others class m (rest_placed e)
    by_member (Some found) is e rest_placed =
        let pair : (here, found) ≡ (class, m) = some_same e in
        subst (λ (p : Class × Member). Placed number first id (here ∷ others) p.0 p.1) pair (in_first number first id items here others found refl refl is)

  -- ---- classes by their numbers

  -- a class of an image
  record ClassStands (classes : List Class) (raws : List RawClass) (at : ℕ) (class : Class) : Type 0 where
    raw : RawClass
    stands : slice_get raws at ≡ Some raw
    regular : raw.regular ≡ class.is_regular

  class_stands : (number first : ℕ) (rest : List Declaration) (at : ℕ) (class : Class) → slice_get (classes_from number first rest) at ≡ Some class
      → ClassStands (classes_from number first rest) (classes_image ds (classes_from number first rest) (selects_of rest)) at class
  class_stands number first [] at class e = absurd cc
  class_stands number first (declaration.Struct node line struct fields ∷ rest) at class e = class_stands number first rest at class e
  class_stands number first (declaration.Function node result function formals body ∷ rest) at class e = class_stands number first rest at class e
  class_stands number first (declaration.Class node line kind name items ∷ rest) zero class e = record { raw = _; stands = refl; regular = ap Class.is_regular (some_same e) }
  class_stands number first (declaration.Class node line kind name items ∷ rest) (suc at) class e =
      let c = class_stands (number + 1) (first + length (members_from first items)) rest at class e in record { raw = c.raw; stands = c.stands; regular = c.regular }

  -- a class of a name, by its number
  record Named (number : ℕ) (classes : List Class) (class : Class) : Type 0 where
    at : ℕ
    number_is : class.number ≡ number + at
    stands : slice_get classes at ≡ Some class

  class_placed : (name : List ℕ) (number first : ℕ) (rest : List Declaration) (class : Class) → class_named name (classes_from number first rest) ≡ Some class → Named number (classes_from number first rest) class
  class_placed name number first [] class e = absurd cc
  class_placed name number first (declaration.Struct node line struct fields ∷ rest) class e = class_placed name number first rest class e
  class_placed name number first (declaration.Function node result function formals body ∷ rest) class e = class_placed name number first rest class e
  class_placed name number first (declaration.Class node line kind class_name items ∷ rest) class e =
      one_of (Named number (here ∷ others) class) (bytes_eq class_name.text name) (Some here) (class_named name others) (Some class) e
      (λ b this. record { at = 0; number_is = let n : number ≡ class.number = ap Class.number (some_same this) in omega (arith, n); stands = this })
      (λ b more. let n = class_placed name (number + 1) (first + length (members_from first items)) rest class more in
      record { at = suc n.at; number_is = let g = n.number_is in omega arith; stands = n.stands }) where
        here : Class
        here = record { number = number; name = class_name.text; is_regular = is_regular kind; state = state_of items; members = members_from first items }

        others : List Class
        others = classes_from (number + 1) (first + length (members_from first items)) rest

-- ---- the image

pub image_compiled : (p : Program) (marks : ℕ → Bool) → Compiled (image_of p marks) p.declarations marks
image_compiled p marks = record {
  members = λ class m is. member_there class m is;
  classes = λ name class named. class_there name class named;
  functions = λ number plain stands. slice_get-map (function_image p.declarations marks) (plain_functions p.declarations) number ∙ ap (option_map (function_image p.declarations marks)) stands;
} where
  at_number : (at number : ℕ) → number ≡ 0 + at → number ≡ at
  at_number at number e = omega arith

  member_there : (class : Class) (m : Member) → MemberIs p.declarations class m → MemberStands (image_of p marks) p.declarations marks class m
  member_there class m is =
      let q = placed p.declarations marks 0 0 m.id p.declarations class m is.found in
      let c = class_stands p.declarations marks 0 0 p.declarations q.class_at class q.class_stands in record {
        stands = ap (slice_get (image_of p marks).members) (at_number q.at m.id q.id_is) ∙ q.stands;
        class_is = ap (λ n. class_is_regular (slice_get (image_of p marks).classes n)) (at_number q.class_at class.number q.number_is) ∙ ap class_is_regular c.stands ∙ ap Some c.regular;
      }

  class_there : (name : List ℕ) (class : Class) → class_named name (classes_of p.declarations) ≡ Some class
      → (raw : RawClass) × (slice_get (image_of p marks).classes class.number ≡ Some raw) × (raw.regular ≡ class.is_regular)
  class_there name class named =
      let n = class_placed p.declarations marks name 0 0 p.declarations class named in
      let c = class_stands p.declarations marks 0 0 p.declarations n.at class n.stands in
      (c.raw, ap (slice_get (image_of p marks).classes) (at_number n.at class.number n.number_is) ∙ c.stands, c.regular)

-- the member of a number has that number
pub id_same : (p : Program) (id : ℕ) (class : Class) (m : Member) → member_of_classes id (classes_of p.declarations) ≡ Some (class, m) → m.id ≡ id
id_same p id class m e = (placed p.declarations (λ n. false) 0 0 id p.declarations class m e).same
