-- Lists of views: their parts, what they hold, and who is inside, after a change of one of them.
use Rattle.std.proofs.Common.{◌≡◌, ℕ, zero, suc, ◌+◌, ◌≤◌, ◌≢◌, Bool, true, false, List, [], ◌∷◌, ◌++◌, set, sym, refl, ap, ◌∙◌, subst, ⊎_elim, arith}
use Rattle.std.specs.Prelude.{Contains}
use mathlib.Core.Option.{some, some-injective, some-ne-none}
use lib.ListN.{get_elem?}
use Rattle.atomic_table.proofs.Lists.{at_set, at_snoc, at_longer, set_else}
use Rattle.mdf_turn.specs.declared.view.View.{View}
use Rattle.mdf_turn.specs.Rule.{total_parts, HoldApart, NoneInside}

module _ {A : Type 0} where
  pub at_set_here : (l : List A) (i : ℕ) (a b : A) → get_elem? l i ≡ some a → get_elem? (set l i b) i ≡ some b
  at_set_here [] i a b e = absurd (some-ne-none a (sym e))
  at_set_here (x ∷ xs) zero a b e = refl
  at_set_here (x ∷ xs) (suc i) a b e = at_set_here xs i a b e

  pub set_swap : (l : List A) (i j : ℕ) (a b : A) → ¬ (i ≡ j) → set (set l i a) j b ≡ set (set l j b) i a
  set_swap [] i j a b apart = refl
  set_swap (x ∷ xs) zero zero a b apart = absurd (apart refl)
  set_swap (x ∷ xs) zero (suc j) a b apart = refl
  set_swap (x ∷ xs) (suc i) zero a b apart = refl
  set_swap (x ∷ xs) (suc i) (suc j) a b apart = ap (λ l. x ∷ l) (set_swap xs i j a b (λ same. apart (ap suc same)))

  pub one_there : (l : List A) (i : ℕ) (a b : A) → get_elem? l i ≡ some a → get_elem? l i ≡ some b → a ≡ b
  one_there l i a b p q = some-injective a b (sym p ∙ q)

pub true_or_false : (b : Bool) → b ≡ true → b ≡ false → ⊥
true_or_false b p q = let e : true ≡ false = sym p ∙ q in cc

pub false_unless : (b : Bool) → (b ≡ true → ⊥) → b ≡ false
false_unless true not = absurd (not refl)
false_unless false not = refl

module _ {J E : Type 0} where
  pub total_parts-set : (l : List (View J E)) (i : ℕ) (v w : View J E) → get_elem? l i ≡ some v → total_parts (set l i w) + v.parts ≡ total_parts l + w.parts
  total_parts-set [] i v w e = absurd (some-ne-none v (sym e))
  total_parts-set (x ∷ xs) zero v w e = let is : x.parts ≡ v.parts = ap (λ (u : View J E). u.parts) (some-injective x v e) in omega arith
  total_parts-set (x ∷ xs) (suc i) v w e = let r = total_parts-set xs i v w e in omega arith

  pub total_parts-snoc : (l : List (View J E)) (v : View J E) → total_parts (l ++ v ∷ []) ≡ total_parts l + v.parts
  total_parts-snoc [] v = omega arith
  total_parts-snoc (x ∷ xs) v = let r = total_parts-snoc xs v in omega arith

  parts_within : (l : List (View J E)) (i : ℕ) (v : View J E) → get_elem? l i ≡ some v → v.parts ≤ total_parts l
  parts_within [] i v e = absurd (some-ne-none v (sym e))
  parts_within (x ∷ xs) zero v e = let is : x.parts ≡ v.parts = ap (λ (u : View J E). u.parts) (some-injective x v e) in omega arith
  parts_within (x ∷ xs) (suc i) v e = let r = parts_within xs i v e in omega arith

  -- where one view has all parts, the others have none
  pub all_in_one : (l : List (View J E)) (i j : ℕ) (v w : View J E) → get_elem? l i ≡ some v → get_elem? l j ≡ some w → ¬ (j ≡ i) → total_parts l ≡ v.parts → w.parts ≡ 0
  all_in_one [] i j v w e f apart all = absurd (some-ne-none v (sym e))
  all_in_one (x ∷ xs) zero zero v w e f apart all = absurd (apart refl)
  all_in_one (x ∷ xs) zero (suc j) v w e f apart all = let is : x.parts ≡ v.parts = ap (λ (u : View J E). u.parts) (some-injective x v e) in let r = parts_within xs j w f in omega arith
  all_in_one (x ∷ xs) (suc i) zero v w e f apart all = let is : x.parts ≡ w.parts = ap (λ (u : View J E). u.parts) (some-injective x w f) in let r = parts_within xs i v e in omega arith
  all_in_one (x ∷ xs) (suc i) (suc j) v w e f apart all = let r = parts_within xs i v e in all_in_one xs i j v w e f (λ same. apart (ap suc same)) (omega arith)

  -- what w holds nobody else holds
  abbrev pub HoldsAlone : List (View J E) → ℕ → View J E → Type 0
  HoldsAlone views id w = (seat : ℕ) (u : View J E) → get_elem? views seat ≡ some u → ¬ (seat ≡ id) → (x : ℕ) → Contains w.held x → ¬ Contains u.held x

  pub apart-set : (views : List (View J E)) (id : ℕ) (w : View J E) → HoldApart views → HoldsAlone views id w → HoldApart (set views id w)
  apart-set views id w apart alone a b v u at_a at_b differ x has_v has_u =
      ⊎_elim
      (λ (p : (a ≡ id) × (w ≡ v)). ⊎_elim
      (λ (q : (b ≡ id) × (w ≡ u)). differ (p.0 ∙ sym q.0))
      (λ (q : (b ≢ id) × (get_elem? views b ≡ some u)). alone b u q.1 q.0 x (subst (λ (z : View J E). Contains z.held x) (sym p.1) has_v) has_u)
      (at_set views id b w u at_b))
      (λ (p : (a ≢ id) × (get_elem? views a ≡ some v)). ⊎_elim
      (λ (q : (b ≡ id) × (w ≡ u)). alone a v p.1 p.0 x (subst (λ (z : View J E). Contains z.held x) (sym q.1) has_u) has_v)
      (λ (q : (b ≢ id) × (get_elem? views b ≡ some u)). apart a b v u p.1 q.1 differ x has_v has_u)
      (at_set views id b w u at_b))
      (at_set views id a w v at_a)

  -- what w holds v held, who was there
  pub holds_alone : (views : List (View J E)) (id : ℕ) (v w : View J E) → HoldApart views → get_elem? views id ≡ some v → ((x : ℕ) → Contains w.held x → Contains v.held x) → HoldsAlone views id w
  holds_alone views id v w apart at had seat u there differ x has = apart id seat v u at there (λ same. differ (sym same)) x (had x has)

  pub apart-snoc : (views : List (View J E)) (w : View J E) → HoldApart views → w.held ≡ [] → HoldApart (views ++ w ∷ [])
  apart-snoc views w apart empty_handed a b v u at_a at_b differ x has_v has_u = let empty : (z : View J E) → w ≡ z → Contains z.held x → ⊥ = λ z same has.
      let e : z.held ≡ [] = ap (λ (y : View J E). y.held) (sym same) ∙ empty_handed in let c = subst (λ (l : List ℕ). Contains l x) e has in absurd (omega (arith, c.1)) in
      ⊎_elim
      (λ (p : get_elem? views a ≡ some v). ⊎_elim
      (λ (q : get_elem? views b ≡ some u). apart a b v u p q differ x has_v has_u)
      (λ (q : w ≡ u). empty u q has_u)
      (at_snoc views w u b at_b))
      (λ (p : w ≡ v). empty v p has_v)
      (at_snoc views w v a at_a)

  -- the same seats are inside, with the same views
  pub record SameInside (views later : List (View J E)) : Type 0 where
    pub stay : (seat : ℕ) (v : View J E) → get_elem? views seat ≡ some v → v.inside ≡ true → get_elem? later seat ≡ some v
    pub come : (seat : ℕ) (v : View J E) → get_elem? later seat ≡ some v → v.inside ≡ true → get_elem? views seat ≡ some v

  pub same_inside_set : (views : List (View J E)) (id : ℕ) (v w : View J E) → get_elem? views id ≡ some v → v.inside ≡ false → w.inside ≡ false → SameInside views (set views id w)
  same_inside_set views id v w at out out' = record {
    stay = λ seat u there inside. set_else views id seat w (λ (same : seat ≡ id).
        let e : u ≡ v = one_there views id u v (subst (λ (z : ℕ). get_elem? views z ≡ some u) same there) at in true_or_false u.inside inside (ap (λ (z : View J E). z.inside) e ∙ out)) ∙ there;
    come = λ seat u there inside. ⊎_elim
        (λ (p : (seat ≡ id) × (w ≡ u)). absurd (true_or_false u.inside inside (ap (λ (z : View J E). z.inside) (sym p.1) ∙ out')))
        (λ (p : (seat ≢ id) × (get_elem? views seat ≡ some u)). p.1)
        (at_set views id seat w u there);
  }

  pub same_inside_snoc : (views : List (View J E)) (w : View J E) → w.inside ≡ false → SameInside views (views ++ w ∷ [])
  same_inside_snoc views w out = record {
    stay = λ seat u there inside. at_longer views (w ∷ []) seat u there;
    come = λ seat u there inside. ⊎_elim
        (λ (p : get_elem? views seat ≡ some u). p)
        (λ (p : w ≡ u). absurd (true_or_false u.inside inside (ap (λ (z : View J E). z.inside) (sym p) ∙ out)))
        (at_snoc views w u seat there);
  }

  pub same_inside_twice : (a b c : List (View J E)) → SameInside a b → SameInside b c → SameInside a c
  same_inside_twice a b c s t = record {
    stay = λ seat u there inside. t.stay seat u (s.stay seat u there inside) inside;
    come = λ seat u there inside. s.come seat u (t.come seat u there inside) inside;
  }

  pub none_inside : (views later : List (View J E)) → SameInside views later → NoneInside views → NoneInside later
  none_inside views later s outside seat v there = false_unless v.inside (λ is. true_or_false v.inside is (outside seat v (s.come seat v there is)))
