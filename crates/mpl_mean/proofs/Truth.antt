-- Facts of tests and options.
use Rattle.std.proofs.Common.{◌≡◌, Bool, true, false, not, ◌&&◌, ◌||◌, Option, Some, refl, sym, ◌∙◌, true≢false}

-- ---- tests

pub both_true : (a b : Bool) → (a && b) ≡ true → (a ≡ true) × (b ≡ true)
both_true true b e = (refl, e)
both_true false b e = absurd cc

pub four_true : (a b c d : Bool) → (a && b && c && d) ≡ true → (a ≡ true) × (b ≡ true) × (c ≡ true) × (d ≡ true)
four_true true true true d e = (refl, refl, refl, e)
four_true true true false d e = absurd cc
four_true true false c d e = absurd cc
four_true false b c d e = absurd cc

pub and_true_right : (a : Bool) → (a && true) ≡ a
and_true_right true = refl
and_true_right false = refl

pub and_false : (a b : Bool) → ((a && false) && b) ≡ true → ⊥
and_false true b h = cc
and_false false b h = cc

pub or_left : (a b : Bool) → a ≡ true → (a || b) ≡ true
or_left true b e = refl
or_left false b e = absurd cc

pub or_right : (a b : Bool) → b ≡ true → (a || b) ≡ true
or_right true b e = refl
or_right false b e = e

pub not_true : (b : Bool) → not b ≡ true → b ≡ false
not_true true e = absurd cc
not_true false e = refl

pub never : {A : Type 0} (b : Bool) → b ≡ false → b ≡ true → A
never b e h = absurd (true≢false (sym h ∙ e))

-- ---- options

pub some_is : {A : Type 0} {a b : A} → ◌≡◌ {A = Option A} (Some a) (Some b) → a ≡ b
some_is e = cc
