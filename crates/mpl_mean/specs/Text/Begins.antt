-- Which tokens begin a program, and the weights at them.
use Rattle.std.specs.Prelude.{◌≡◌, ℕ, true, List, ◌∷◌, ◌++◌, length, nat_le, slice_get, Option, Some, take}
use Rattle.std.specs.List.{list_all}
use Rattle.mpl_ast.specs.declared.program.Program.{Program}
use Rattle.mpl_ast.specs.declared.token.Token.{Token}
use Rattle.mpl_mean.specs.Limits.{most_weight}
use Rattle.mpl_mean.specs.Text.ProgramText.{spells}
use Rattle.mpl_mean.specs.Text.Weight.{weights}

-- Some program has these tokens, and more behind them or not.
pub record Begins (front : List Token) : Type 0 where
  pub program : Program
  pub more : List Token
  pub spelled : spells program (front ++ more) ≡ true

-- the weight at the token behind so many
abbrev pub weight_behind : List Token → Program → Option ℕ
weight_behind front p = slice_get (weights p) (length front)

-- Each program that begins with the tokens weighs no more than the limit at each of them.
abbrev pub IsLightFront : List Token → Type 0
IsLightFront front =
    (p : Program) (more : List Token) → spells p (front ++ more) ≡ true → list_all (λ w. nat_le w most_weight) (take (length front) (weights p)) ≡ true

-- Each program that begins with the tokens and this one behind them has this weight at it.
abbrev pub WeighsBehind : List Token → Token → ℕ → Type 0
WeighsBehind front token w =
    (p : Program) (more : List Token) → spells p (front ++ token ∷ more) ≡ true → weight_behind front p ≡ Some w
