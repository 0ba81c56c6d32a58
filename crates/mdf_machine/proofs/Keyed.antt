-- A map with an entry for each number below a count.
use Rattle.std.proofs.Common.{◌≡◌, ◌<◌, ◌≤◌, ◌+◌, ◌⊎◌, ℕ, Option, Some, None, refl, sym, ap, ◌∙◌, subst, arith, inl, inr}
use Rattle.std.specs.Ordering.{nat_cmp}
use Rattle.std.specs.FinMap.{FinMap, get, insert, empty, get-empty}
use Rattle.mdf_core.proofs.Lists.{same_or}
use Rattle.mdf_future.proofs.Inserted.{inserted}
use Rattle.mdf_machine.specs.Internal.Tables.{Keyed}

pub inserted_here : {V : Type 0} (m : FinMap nat_cmp V) (a : ℕ) (v : V) → get (insert m a v) a ≡ Some v
inserted_here m a v = inserted (λ o. o ≡ Some v) m a a v (λ e. refl) (λ e. absurd (e refl))

pub inserted_there : {V : Type 0} (m : FinMap nat_cmp V) (a k : ℕ) (v : V) → (k ≡ a → ⊥) → get (insert m a v) k ≡ get m k
inserted_there m a k v differ = inserted (λ o. o ≡ get m k) m a k v (λ e. absurd (differ e)) (λ e. refl)

pub keyed_empty : {V : Type 0} (R : ℕ → V → Type 0) → Keyed R 0 empty
keyed_empty R = record { at = λ k below. absurd (omega (arith, below)); beyond = λ k above. get-empty nat_cmp k }

pub keyed_as : {V : Type 0} (R S : ℕ → V → Type 0) (n m : ℕ) (t : FinMap nat_cmp V) → Keyed R n t → n ≡ m → ((k : ℕ) (v : V) → k < n → R k v → S k v) → Keyed S m t
keyed_as R S n m t h same goes = record {
  at = λ k below. let e = h.at k (omega (arith, below, same)) in (e.0, e.1, goes k e.0 (omega (arith, below, same)) e.2);
  beyond = λ k above. h.beyond k (omega (arith, above, same));
}

-- an entry is changed
pub keyed_put : {V : Type 0} (R S : ℕ → V → Type 0) (n m a : ℕ) (v : V) (t : FinMap nat_cmp V) → Keyed R n t → n ≡ m → a < n → S a v → ((k : ℕ) (x : V) → k < n → (k ≡ a → ⊥) → R k x → S k x) → Keyed S m (insert t a v)
keyed_put R S n m a v t h same there here others = record {
  at = λ k below. at k (omega (arith, below, same)) (same_or k a);
  beyond = λ k above. inserted_there t a k v (λ e. absurd (omega (arith, e, above, same, there))) ∙ h.beyond k (omega (arith, above, same));
} where
  at : (k : ℕ) → k < n → (k ≡ a) ⊎ (k ≡ a → ⊥) → (x : _) × (get (insert t a v) k ≡ Some x) × S k x
  at k below (inl is) = (v, ap (get (insert t a v)) is ∙ inserted_here t a v, subst (λ j. S j v) (sym is) here)
  at k below (inr differ) = let e = h.at k below in (e.0, inserted_there t a k v differ ∙ e.1, others k e.0 below differ e.2)

-- one more
pub keyed_add : {V : Type 0} (R S : ℕ → V → Type 0) (n m : ℕ) (v : V) (t : FinMap nat_cmp V) → Keyed R n t → n + 1 ≡ m → S n v → ((k : ℕ) (x : V) → k < n → R k x → S k x) → Keyed S m (insert t n v)
keyed_add R S n m v t h same here others = record {
  at = λ k below. at k (omega (arith, below, same)) (same_or k n);
  beyond = λ k above. inserted_there t n k v (λ e. absurd (omega (arith, e, above, same))) ∙ h.beyond k (omega (arith, above, same));
} where
  at : (k : ℕ) → k < n + 1 → (k ≡ n) ⊎ (k ≡ n → ⊥) → (x : _) × (get (insert t n v) k ≡ Some x) × S k x
  at k below (inl is) = (v, ap (get (insert t n v)) is ∙ inserted_here t n v, subst (λ j. S j v) (sym is) here)
  at k below (inr differ) = let e = h.at k (omega (arith, below, differ)) in (e.0, inserted_there t n k v differ ∙ e.1, others k e.0 (omega (arith, below, differ)) e.2)
