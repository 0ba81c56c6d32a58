-- What is asked of the expression of a guard: it computes alone, and its code keeps few words.
use Rattle.std.proofs.Common.{◌≡◌, ◌≤◌, ℕ, ◌+◌}
use Rattle.mpl_mean.specs.Plain.Expr.{Expr}
use Rattle.mpl_mean.specs.Plain.Expr as e
use Rattle.mdf_code.specs.Guards.{most_guard_words}
use Rattle.mpl_gen_code.specs.Fits.{ExprFits, function_may}
use Rattle.mpl_gen_code.specs.Scopes.{Env}
use Rattle.mpl_gen_code.specs.Words.{words_of_expr}

-- it has no calls, no `input` and no `self`
abbrev pub Pure : Expr → Type 0
Pure (e.Number at value) = Unit {0}
Pure (e.Truth at value) = Unit {0}
Pure (e.Own at) = ⊥
Pure (e.Input at) = ⊥
Pure (e.Whole at target) = Unit {0}
Pure (e.Element at line target index) = Pure index
Pure (e.PlainCall at function arguments) = ⊥
Pure (e.Parenthesized at inner) = Pure inner
Pure (e.Unary at line operator operand) = Pure operand
Pure (e.Binary at line operator left right) = Pure left × Pure right
Pure (e.CallOnOwn at member arguments) = ⊥
Pure (e.CallOnTarget at target member arguments) = ⊥

-- with so many words below it there are never too many
abbrev pub Low : ℕ → Expr → Type 0
Low k (e.Number at value) = k + 1 ≤ most_guard_words
Low k (e.Truth at value) = k + 1 ≤ most_guard_words
Low k (e.Own at) = Unit {0}
Low k (e.Input at) = Unit {0}
Low k (e.Whole at target) = k + 1 ≤ most_guard_words
Low k (e.Element at line target index) = (k + 1 ≤ most_guard_words) × Low k index
Low k (e.PlainCall at function arguments) = Unit {0}
Low k (e.Parenthesized at inner) = Low k inner
Low k (e.Unary at line operator operand) = (k + 1 ≤ most_guard_words) × Low k operand
Low k (e.Binary at line operator left right) = (k + 1 ≤ most_guard_words) × Low k left × Low k right × Low (k + 1) right
Low k (e.CallOnOwn at member arguments) = Unit {0}
Low k (e.CallOnTarget at target member arguments) = Unit {0}

pub record Ready (env : Env) (k : ℕ) (expr : Expr) : Type 0 where
  pub fits : ExprFits function_may env expr
  pub one : words_of_expr env expr ≡ 1
  pub alone : Pure expr
  pub low : Low k expr
