-- However many steps are allowed, a machine comes to one yield.
use Rattle.std.proofs.Common.{◌≡◌, ℕ, zero, suc, Some, sym, ◌∙◌}
use Rattle.mpl_value.specs.declared.body.Yield.{Yield}
use Rattle.mpl_mean.proofs.Truth.{some_is}
use Rattle.mpl_body_code.specs.Images.{ComesTo, starts}
use Rattle.mpl_body_code.specs.Machine.{Machine, Next, Goes, Stops, Setting}
use Rattle.mpl_body_code.specs.Steps.{exec, followed, spends, step}

agree : (S : Setting) (n m : ℕ) (next : Next) (y z : Yield) → followed (exec n S) next ≡ Some y → followed (exec m S) next ≡ Some z → y ≡ z
agree S n m (Stops w) y z e f = some_is (sym e ∙ f)
agree S zero m (Goes x) y z e f = absurd cc
agree S (suc n) zero (Goes x) y z e f = absurd cc
agree S (suc n) (suc m) (Goes x) y z e f = agree S n m (step S x) y z e f

pub one_yield : (S : Setting) (x : Machine) (n : ℕ) (y z : Yield) → starts n S x ≡ Some y → ComesTo S x z → y ≡ z
one_yield S x n y z e c = agree S n c.steps (spends S x Goes) y z e c.comes
