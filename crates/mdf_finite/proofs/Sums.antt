-- Sums that grow.
use Rattle.std.proofs.Common.{◌≡◌, ◌+◌, ◌*◌, ◌<◌, ◌≤◌, ℕ, zero, suc, sym, subst, refl, arith, ◌⊎◌, inl, inr}
use Rattle.mdf_core.specs.Naming.{sum_below}
use Rattle.mdf_core.proofs.Lists.{same_or}
use Rattle.mdf_finite.proofs.LearntResults.{less_than}

pub sum_most : (n : ℕ) (f g : ℕ → ℕ) → ((k : ℕ) → k < n → f k ≤ g k) → sum_below n f ≤ sum_below n g
sum_most zero f g most = omega arith
sum_most (suc n) f g most = let rest = sum_most n f g (λ k below. most k (omega (arith, below))) in let one = most n (omega arith) in omega (arith, rest, one)

-- one number grows by so much
pub sum_gains : (n a gain : ℕ) (f g : ℕ → ℕ) → a < n → ((k : ℕ) → k < n → f k ≤ g k) → f a + gain ≤ g a → sum_below n f + gain ≤ sum_below n g
sum_gains zero a gain f g below most here = absurd (omega (arith, below))
sum_gains (suc n) a gain f g below most here = at (same_or (suc a) (suc n)) (λ under. sum_gains n a gain f g under (λ k l. most k (omega (arith, l))) here) where
  at : (suc a ≡ suc n) ⊎ (suc a ≡ suc n → ⊥) → (a < n → sum_below n f + gain ≤ sum_below n g) → sum_below (suc n) f + gain ≤ sum_below (suc n) g
  at (inl same) again =
      let rest = sum_most n f g (λ k l. most k (omega (arith, l))) in
      let one = subst (λ k. f k + gain ≤ g k) (less_same a n same) here in omega (arith, rest, one) where
        less_same : (m n : ℕ) → suc m ≡ suc n → m ≡ n
        less_same m n e = omega (arith, e)
  at (inr differ) again =
      let under = less_than (suc a) n (omega (arith, below)) differ in
      let rest = again (omega (arith, under)) in let one = most n (omega arith) in omega (arith, rest, one)

pub sum_longer : (n m : ℕ) (f : ℕ → ℕ) → n ≤ m → sum_below n f ≤ sum_below m f
sum_longer n zero f under = let none : n ≡ 0 = omega (arith, under) in subst (λ k. sum_below k f ≤ 0) (sym none) (omega arith)
sum_longer n (suc m) f under = at (same_or n (suc m)) (λ u. sum_longer n m f u) where
  at : (n ≡ suc m) ⊎ (n ≡ suc m → ⊥) → (n ≤ m → sum_below n f ≤ sum_below m f) → sum_below n f ≤ sum_below (suc m) f
  at (inl same) again = subst (λ k. sum_below k f ≤ sum_below (suc m) f) (sym same) (omega arith)
  at (inr differ) again = let rest = again (less_than n m under differ) in omega (arith, rest)

pub sum_ones : (n : ℕ) → sum_below n (λ k. 1) ≡ n
sum_ones zero = refl
sum_ones (suc n) = omega (arith, sum_ones n)

pub sum_each_more : (n each : ℕ) (f : ℕ → ℕ) → sum_below n (λ k. f k + each) ≡ sum_below n f + n * each
sum_each_more zero each f = omega arith
sum_each_more (suc n) each f = let rest = sum_each_more n each f in omega (arith, rest)
