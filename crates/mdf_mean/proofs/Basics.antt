-- Facts of tests, options and lists.
use Rattle.std.proofs.Common.{◌≡◌, ℕ, zero, suc, true, false, List, [], ◌∷◌, Option, Some, None, ℤ, refl, subst, nat_eq}
use Rattle.std.proofs.lemmas.Bool.{eqb-true, eq-eqb}
use Rattle.std.specs.Prelude.{slice_get}
use Rattle.std.specs.FinMap.{int_cmp-IsAntisymmetric}
use Rattle.std.specs.Ordering.{int_eq, int_cmp, is_eq}
use Rattle.std.specs.declared.cmp.Ordering.{Ordering}
use Rattle.std.specs.declared.cmp.Ordering.TheVariants.{Less, Equal, Greater}
use Rattle.mpl_mean.specs.Laws.Allowance.{AtSharedPlaces}
use Rattle.mpl_mean.specs.Laws.Sizes.{Every}
use Rattle.mpl_mean.proofs.Truth.{some_is}
pub use Rattle.mdf_mean.specs.LawfulLanguage.Facts.{by_bool, every_map}
use Rattle.mdf_mean.specs.Ran.{numbered}

-- ---- cases

pub by_option : {A P : Type 0} (o : Option A) → (o ≡ None → P) → ((a : A) → o ≡ Some a → P) → P
by_option None n s = n refl
by_option (Some a) n s = s a refl

pub not_both : {A P : Type 0} {o : Option A} {a : A} → o ≡ None → o ≡ Some a → P
not_both n s = absurd cc

pub same_option : {A : Type 0} {o : Option A} {a b : A} → o ≡ Some a → o ≡ Some b → a ≡ b
same_option e f = cc

pub int_same : (x y : ℤ) → int_eq x y ≡ true → x ≡ y
int_same x y e = int_cmp-IsAntisymmetric x y (by_order (int_cmp x y) e) where
  by_order : (r : Ordering) → is_eq r ≡ true → r ≡ Equal
  by_order Less e = absurd cc
  by_order Equal e = refl
  by_order Greater e = absurd cc

pub nat_same : (n : ℕ) → nat_eq n n ≡ true
nat_same n = eq-eqb n n refl

pub nat_differ : (m n : ℕ) → (m ≡ n → ⊥) → nat_eq m n ≡ false
nat_differ m n h = by_bool (nat_eq m n) (λ e. absurd (h (eqb-true m n e))) (λ e. e)

-- ---- lists

pub every_all : {A : Type 0} (P : A → Type 0) → ((a : A) → P a) → (xs : List A) → Every P xs
every_all P h [] = tt
every_all P h (x ∷ xs) = (h x, every_all P h xs)

every_at : {A : Type 0} (P : A → Type 0) (xs : List A) (n : ℕ) (a : A) → Every P xs → slice_get xs n ≡ Some a → P a
every_at P [] n a h e = absurd cc
every_at P (x ∷ xs) zero a h e = subst P (some_is e) h.0
every_at P (x ∷ xs) (suc n) a h e = every_at P xs n a h.1 e

pub every_numbered : {A : Type 0} (P : A → Type 0) (xs : List A) (n : ℕ) (a : A) → Every P xs → numbered n xs ≡ Some a → P a
every_numbered P xs zero a h e = absurd cc
every_numbered P xs (suc n) a h e = every_at P xs n a h e

shared_at : {A : Type 0} (R : A → A → Type 0) (xs ys : List A) (n : ℕ) (a b : A) → AtSharedPlaces R xs ys → slice_get xs n ≡ Some a → slice_get ys n ≡ Some b → R a b
shared_at R [] ys n a b h e f = absurd cc
shared_at R (x ∷ xs) [] n a b h e f = absurd cc
shared_at R (x ∷ xs) (y ∷ ys) zero a b h e f = subst (λ v. R v b) (some_is e) (subst (λ w. R x w) (some_is f) h.0)
shared_at R (x ∷ xs) (y ∷ ys) (suc n) a b h e f = shared_at R xs ys n a b h.1 e f

pub shared_numbered : {A : Type 0} (R : A → A → Type 0) (xs ys : List A) (n : ℕ) (a b : A) → AtSharedPlaces R xs ys → numbered n xs ≡ Some a → numbered n ys ≡ Some b → R a b
shared_numbered R xs ys zero a b h e f = absurd cc
shared_numbered R xs ys (suc n) a b h e f = shared_at R xs ys n a b h e f
