-- The least failure among a list of them.
use Rattle.std.proofs.Common.{◌≡◌, ◌⊎◌, ℕ, Bool, true, false, ◌||◌, List, [], ◌∷◌, Some, None, Option, if◌then◌else◌, arith, refl, inl, inr, subst}
use Rattle.std.proofs.lemmas.Bool.Decides.{nat_tests}
use Rattle.std.specs.List.{list_any}
use Rattle.mpl_mean.specs.TypeRules.Rules.{Failure, is_failure, is_before, lesser, least, is_empty, IsNotBehind}
use Rattle.mpl_mean.proofs.Truth.{some_is}

chosen : (a b : Failure) (t : Bool) → is_before a b ≡ t → IsNotBehind (if t then a else b) a × IsNotBehind (if t then a else b) b
chosen a b true e = (inr (refl, grind (arith, nat_tests)), grind (arith, nat_tests))
chosen a b false e = (grind (arith, nat_tests), inr (refl, grind (arith, nat_tests)))

follows : (a b c : Failure) → IsNotBehind a b → IsNotBehind b c → IsNotBehind a c
follows a b c (inl h) (inl k) = inl (omega (arith, h, k))
follows a b c (inl h) (inr k) = inl (omega (arith, h, k.0))
follows a b c (inr h) (inl k) = inl (omega (arith, h.0, k))
follows a b c (inr h) (inr k) = inr (omega (arith, h.0, k.0), omega (arith, h.1, k.1))

is_itself : (f : Failure) → is_failure f.rule f.at f ≡ true
is_itself f = grind (arith, nat_tests)

is_same : (f : Failure) (number at : ℕ) → is_failure number at f ≡ true → (f.at ≡ at) × (f.rule ≡ number)
is_same f number at e = (grind (arith, nat_tests), grind (arith, nat_tests))

either : (s t : Bool) → (s || t) ≡ true → (s ≡ true) ⊎ (t ≡ true)
either true t e = inl refl
either false t e = inr e

-- ---- what the least is

found_first : (g : Failure) (gs : List Failure) → list_any (is_failure g.rule g.at) (g ∷ gs) ≡ true
found_first g gs = rw (is_itself g) refl

found_later : (g f : Failure) (gs : List Failure) → list_any (is_failure f.rule f.at) gs ≡ true → list_any (is_failure f.rule f.at) (g ∷ gs) ≡ true
found_later g f gs e = elim (is_failure f.rule f.at g) as (λ t. (t || list_any (is_failure f.rule f.at) gs) ≡ true) [ true ↦ refl | false ↦ e ]

-- ---- the least is one of them

abbrev IsAmong : List Failure → Failure → Type 0
IsAmong fs f = list_any (is_failure f.rule f.at) fs ≡ true

found_choice : (g b f : Failure) (gs : List Failure) → IsAmong gs b → (t : Bool) → (if t then b else g) ≡ f → IsAmong (g ∷ gs) f
found_choice g b f gs found true e = subst (IsAmong (g ∷ gs)) e (found_later g b gs found)
found_choice g b f gs found false e = subst (IsAmong (g ∷ gs)) e (found_first g gs)

found_rest : (g f : Failure) (gs : List Failure) (r : Option Failure) → ((b : Failure) → r ≡ Some b → IsAmong gs b) → lesser g r ≡ f → IsAmong (g ∷ gs) f
found_rest g f gs None found e = subst (IsAmong (g ∷ gs)) e (found_first g gs)
found_rest g f gs (Some b) found e = found_choice g b f gs (found b refl) (is_before b g) e

pub least_found : (fs : List Failure) (f : Failure) → least fs ≡ Some f → IsAmong fs f
least_found [] f e = absurd cc
least_found (g ∷ gs) f e = found_rest g f gs (least gs) (least_found gs) (some_is e)

-- ---- and none of them comes before it

abbrev failure : ℕ → ℕ → Failure
failure number at = record { at = at; rule = number }

as_same : (f g : Failure) (number at : ℕ) → IsNotBehind f g → is_failure number at g ≡ true → IsNotBehind f (failure number at)
as_same f g number at h e = let same = is_same g number at e in follows f g (failure number at) h (inr (same.0, omega (arith, same.1)))

nothing_least : (fs : List Failure) (number at : ℕ) → least fs ≡ None → list_any (is_failure number at) fs ≡ true → ⊥
nothing_least [] number at l h = cc
nothing_least (g ∷ gs) number at l h = cc

first_rest : (g f : Failure) (gs : List Failure) (number at : ℕ) (r : Option Failure) → least gs ≡ r
    → ((b : Failure) → least gs ≡ Some b → list_any (is_failure number at) gs ≡ true → IsNotBehind b (failure number at))
    → lesser g r ≡ f → (is_failure number at g ≡ true) ⊎ (list_any (is_failure number at) gs ≡ true) → IsNotBehind f (failure number at)
first_rest g f gs number at None l first e (inl h) = as_same f g number at (subst (λ f. IsNotBehind f g) e (inr (refl, omega arith))) h
first_rest g f gs number at None l first e (inr h) = absurd (nothing_least gs number at l h)
first_rest g f gs number at (Some b) l first e (inl h) =
    as_same f g number at (subst (λ f. IsNotBehind f g) e (chosen b g (is_before b g) refl).1) h
first_rest g f gs number at (Some b) l first e (inr h) =
    follows f b (failure number at) (subst (λ f. IsNotBehind f b) e (chosen b g (is_before b g) refl).0) (first b l h)

pub least_first : (fs : List Failure) (f : Failure) (number at : ℕ) → least fs ≡ Some f → list_any (is_failure number at) fs ≡ true → IsNotBehind f (failure number at)
least_first [] f number at e h = absurd cc
least_first (g ∷ gs) f number at e h =
    first_rest g f gs number at (least gs) refl (λ b l k. least_first gs b number at l k) (some_is e) (either (is_failure number at g) (list_any (is_failure number at) gs) h)

-- ---- where there is none

pub least_none : (fs : List Failure) → least fs ≡ None → is_empty fs ≡ true
least_none [] e = refl
least_none (f ∷ fs) e = absurd cc

pub none_least : (fs : List Failure) → is_empty fs ≡ true → least fs ≡ None
none_least [] e = refl
none_least (f ∷ fs) e = absurd cc
