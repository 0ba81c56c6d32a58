-- Facts of numbers, lists and functions that are changed at one place.
use Rattle.std.proofs.Common.{◌≡◌, ◌+◌, ◌<◌, ℕ, zero, suc, Bool, true, false, cond, refl, ap, ◌∙◌, arith, nat_eq, nat_lt, ltb-true, ltb-false, eqb-true, eq-eqb, ◌⊎◌, inl, inr}
use Rattle.mdf_core.specs.Naming.{sum_below}
use Rattle.mdf_core.specs.Worlds.{put}

-- ---- cases

pub by_bool : {P : Type 0} (b : Bool) → (b ≡ true → P) → (b ≡ false → P) → P
by_bool true t f = t refl
by_bool false t f = f refl

pub same_or : (m n : ℕ) → (m ≡ n) ⊎ (m ≡ n → ⊥)
same_or m n = by_bool (nat_eq m n) (λ e. inl (eqb-true m n e)) (λ e. inr (λ s. absurd (cc (eq-eqb m n s, e))))

pub nat_same : (n : ℕ) → nat_eq n n ≡ true
nat_same n = eq-eqb n n refl

pub nat_differ : (m n : ℕ) → (m ≡ n → ⊥) → nat_eq m n ≡ false
nat_differ m n h = by_bool (nat_eq m n) (λ e. absurd (h (eqb-true m n e))) (λ e. e)

-- ---- places

pub put_here : {A : Type 0} (a : ℕ) (x : A) (f : ℕ → A) → put a x f a ≡ x
put_here a x f = ap (λ b. cond b x (f a)) (nat_same a)

pub put_there : {A : Type 0} (a k : ℕ) (x : A) (f : ℕ → A) → (k ≡ a → ⊥) → put a x f k ≡ f k
put_there a k x f h = ap (λ b. cond b x (f k)) (nat_differ k a h)

-- ---- sums

pub sum_same : (n : ℕ) (f g : ℕ → ℕ) → ((k : ℕ) → k < n → g k ≡ f k) → sum_below n g ≡ sum_below n f
sum_same zero f g h = refl
sum_same (suc n) f g h = omega (arith, sum_same n f g (λ k l. h k (omega (arith, l))), h n (omega arith))

-- one number grows, and the others that are below stay
pub counted_below : (n a t : ℕ) (f g : ℕ → ℕ) → a < n → ((k : ℕ) → k < n → (k ≡ a → ⊥) → g k ≡ f k) → g a ≡ f a + t → sum_below n g ≡ sum_below n f + t
counted_below zero a t f g l others here = absurd (omega (arith, l))
counted_below (suc n) a t f g l others here = at (same_or n a) (λ b. counted_below n a t f g b (λ k m. others k (omega (arith, m))) here) where
  below : (n ≡ a → ⊥) → a < n
  below d = by_bool (nat_lt a n) (λ e. ltb-true a n e) (λ e. absurd (d (omega (arith, l, ltb-false a n e))))

  at : (n ≡ a) ⊎ (n ≡ a → ⊥) → (a < n → sum_below n g ≡ sum_below n f + t) → sum_below (suc n) g ≡ sum_below (suc n) f + t
  at (inl e) again = omega (arith, sum_same n f g (λ k b. others k (omega (arith, b)) (λ s. absurd (omega (arith, b, s, e)))), ap g e ∙ here, ap f e)
  at (inr d) again = omega (arith, again (below d), others n (omega arith) d)

pub sum_more : (n a t : ℕ) (f g : ℕ → ℕ) → a < n → ((k : ℕ) → (k ≡ a → ⊥) → g k ≡ f k) → g a ≡ f a + t → sum_below n g ≡ sum_below n f + t
sum_more n a t f g l others here = counted_below n a t f g l (λ k b. others k) here
