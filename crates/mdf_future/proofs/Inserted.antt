-- What a finite map has after an insertion, and maps that are as they were.
use Rattle.std.proofs.Common.{◌≡◌, ℕ, true, false, refl, ap, sym, subst, ◌∙◌}
use Rattle.std.specs.Prelude.{cond, Option, Some, None}
use Rattle.std.specs.declared.cmp.Ordering.{Ordering}
use Rattle.std.specs.declared.cmp.Ordering.TheVariants.{Less, Equal, Greater}
use Rattle.std.specs.Ordering.{nat_cmp, eq_by_cmp, is_eq}
use Rattle.std.specs.Cmp.{nat_cmp_total, eq_by_cmp_equiv}
use Rattle.std.specs.FinMap.{FinMap, get, insert, remove, get-insert, get-remove, same_map, nat_cmp-IsAntisymmetric}

-- what a test of two keys gives, by whether they are one
by_key : {A : Type 0} (P : A → Type 0) (a q : ℕ) (same other : A) → (q ≡ a → P same) → ((q ≡ a → ⊥) → P other) → P (cond (eq_by_cmp nat_cmp q a) same other)
by_key P a q same other is isnt = go (nat_cmp q a) refl where
  differ : q ≡ a → eq_by_cmp nat_cmp q a ≡ false → ⊥
  differ s e =
      let alike : eq_by_cmp nat_cmp q a ≡ true = ap (eq_by_cmp nat_cmp q) (sym s) ∙ (eq_by_cmp_equiv nat_cmp_total).refl q in absurd (cc)

  go : (o : Ordering) → nat_cmp q a ≡ o → P (cond (is_eq o) same other)
  go Less e = isnt (λ s. differ s (ap is_eq e))
  go Equal e = is (nat_cmp-IsAntisymmetric q a e)
  go Greater e = isnt (λ s. differ s (ap is_eq e))

-- what a map has at a key after an insertion, by whether it is the same
pub inserted : {X : Type 0} (P : Option X → Type 0) (m : FinMap nat_cmp X) (a q : ℕ) (f : X) → (q ≡ a → P (Some f))
    → ((q ≡ a → ⊥) → P (get m q)) → P (get (insert m a f) q)
inserted P m a q f same other = subst P (sym (get-insert nat_cmp_total m a f q)) (by_key P a q (Some f) (get m q) same other)

pub removed : {X : Type 0} (P : Option X → Type 0) (m : FinMap nat_cmp X) (a q : ℕ) → (q ≡ a → P None)
    → ((q ≡ a → ⊥) → P (get m q)) → P (get (remove m a) q)
removed P m a q same other = subst P (sym (get-remove nat_cmp_total m a q)) (by_key P a q None (get m q) same other)

-- a value that is written over, and then put back
pub put_back : {X : Type 0} (m : FinMap nat_cmp X) (a : ℕ) (old new : X) → get m a ≡ Some old → insert (insert m a new) a old ≡ m
put_back m a old new here = same_map nat_cmp_total nat_cmp-IsAntisymmetric _ _ (λ q.
    inserted (λ o. o ≡ get m q) (insert m a new) a q old (λ e. sym (ap (get m) e ∙ here))
    (λ other. inserted (λ o. o ≡ get m q) m a q new (λ e. absurd (other e)) (λ _. refl)))

-- a value that is added, and then taken out
pub taken_out : {X : Type 0} (m : FinMap nat_cmp X) (a : ℕ) (new : X) → get m a ≡ None → remove (insert m a new) a ≡ m
taken_out m a new none = same_map nat_cmp_total nat_cmp-IsAntisymmetric _ _ (λ q.
    removed (λ o. o ≡ get m q) (insert m a new) a q (λ e. sym (ap (get m) e ∙ none))
    (λ other. inserted (λ o. o ≡ get m q) m a q new (λ e. absurd (other e)) (λ _. refl)))
