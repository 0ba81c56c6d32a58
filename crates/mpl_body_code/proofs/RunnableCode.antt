-- Code that stays runnable.
use Rattle.std.proofs.Common.{◌≡◌, ◌<◌, ℕ, zero, suc, ◌^◌, ◌&&◌, Bool, true, false, List, [], ◌∷◌, ◌++◌, length, Some, refl, subst, arith, ◌∙◌}
use Rattle.std.specs.Prelude.{slice_get}
use Rattle.std.specs.List.{list_all}
use Rattle.std.proofs.lemmas.List.Folds.{list_all-append}
use Rattle.mpl_mean.proofs.Truth.{both_true, some_is}
use Rattle.mpl_body_code.specs.Runnable.{is_runnable, numbers_fit}
use Rattle.mpl_body_code.specs.declared.instruction.Instruction.{Instruction}

both : (a b : Bool) → a ≡ true → b ≡ true → (a && b) ≡ true
both true b p q = q
both false b p q = p

both_are : {a b : Bool} → a ≡ true → b ≡ true → (a && b) ≡ true
both_are {a} {b} p q = both a b p q

all_got : (code : List Instruction) (n : ℕ) (i : Instruction) → is_runnable code ≡ true → slice_get code n ≡ Some i → (numbers_fit i ≡ true) × (n < length code)
all_got [] n i h is = absurd cc
all_got (j ∷ code) zero i h is = (subst (λ k. numbers_fit k ≡ true) (some_is is) (both_true (numbers_fit j) (list_all numbers_fit code) h).0, omega arith)
all_got (j ∷ code) (suc n) i h is = let rest = all_got code n i (both_true (numbers_fit j) (list_all numbers_fit code) h).1 is in (rest.0, omega (arith, rest.1))

pub pushed_runnable : (code : List Instruction) (i : Instruction) → is_runnable code ≡ true → numbers_fit i ≡ true → is_runnable (code ++ i ∷ []) ≡ true
pushed_runnable [] i h fits = both_are fits refl
pushed_runnable (j ∷ code) i h fits = both_are (both_true (numbers_fit j) (list_all numbers_fit code) h).0 (pushed_runnable code i (both_true (numbers_fit j) (list_all numbers_fit code) h).1 fits)

pub appended_runnable : (code more : List Instruction) → is_runnable code ≡ true → is_runnable more ≡ true → is_runnable (code ++ more) ≡ true
appended_runnable code more h k = list_all-append numbers_fit code more ∙ both_are h k

-- a place where an instruction stands is one of the code's
pub got_runnable : (code : List Instruction) (n : ℕ) (i : Instruction) → is_runnable code ≡ true → length code < 2 ^ 63 → slice_get code n ≡ Some i → (numbers_fit i ≡ true) × (n < 2 ^ 63)
got_runnable code n i h few is = let got = all_got code n i h is in (got.0, omega (arith, got.1))
