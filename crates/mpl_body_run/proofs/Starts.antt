-- From the start to the yield.
use Rattle.std.proofs.Common.{◌≡◌, ◌<◌, ◌+◌, ℕ, suc, Bool, true, false, Some, Result, Ok, Err, if◌then◌else◌, refl, ap, sym, subst, ◌∙◌}
use Rattle.std.proofs.lemmas.Bool.{lt-ltb}
use Rattle.std.specs.Prelude.{IfOk, nat_lt}
use Rattle.mpl_value.specs.declared.body.BodyEnd.TheVariants as end
use Rattle.mpl_value.specs.declared.body.Yield.{Yield}
use Rattle.mpl_value.specs.declared.memory.NoMemory.{NoMemory}
use Rattle.mpl_body_code.specs.Images.{starts}
use Rattle.mpl_body_code.specs.Machine.{Machine, Goes, Stops, Setting}
use Rattle.mpl_body_code.specs.Steps.{exec, followed, step, stops}

if_true : {A : Type 0} {b : Bool} (x y : A) → b ≡ true → (if b then x else y) ≡ x
if_true x y e = subst (λ b. (if b then x else y) ≡ x) (sym e) refl

if_false : {A : Type 0} {b : Bool} (x y : A) → b ≡ false → (if b then x else y) ≡ y
if_false x y e = subst (λ b. (if b then x else y) ≡ y) (sym e) refl

abbrev pub turned : Machine → Machine
turned x = record x { turns = x.turns + 1 }

pub started : (S : Setting) (x : Machine) (r : Result Yield NoMemory) → x.turns < S.turns
    → IfOk r (λ y. (n : ℕ) × (exec n S (turned x) ≡ Some y)) → IfOk r (λ y. (n : ℕ) × (starts n S x ≡ Some y))
started S x (Ok y) less h = (h.0, ap (followed (exec h.0 S)) (if_true (Goes (turned x)) (stops end.Spent (turned x)) (lt-ltb x.turns S.turns less)) ∙ h.1)
started S x (Err e) less h = h

pub not_started : (S : Setting) (x : Machine) (y : Yield) → nat_lt x.turns S.turns ≡ false → stops end.Spent (turned x) ≡ Stops y → starts 0 S x ≡ Some y
not_started S x y none h = ap (followed (exec 0 S)) (if_false (Goes (turned x)) (stops end.Spent (turned x)) none ∙ h)

-- one step more
pub one_step : (S : Setting) (x z : Machine) (n : ℕ) (y : Yield) → step S x ≡ Goes z → exec n S z ≡ Some y → exec (suc n) S x ≡ Some y
one_step S x z n y is h = ap (followed (exec n S)) is ∙ h

pub last_step : (S : Setting) (x : Machine) (y : Yield) → step S x ≡ Stops y → exec 1 S x ≡ Some y
last_step S x y is = ap (followed (exec 0 S)) is
