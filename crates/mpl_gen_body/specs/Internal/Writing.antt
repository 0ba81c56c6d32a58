-- What the writing of a statement comes to: a piece of code behind what was there, and what surrounds the next one.
use Rattle.std.specs.Prelude.{◌≡◌, ℕ, ◌-◌, drop, length}
use Rattle.mpl_gen_code.specs.Pieces.{Piece}
use Rattle.mpl_gen_code.specs.Scopes.{Env}
use Rattle.mpl_gen_expr.specs.Texts.{Text, written}

pub record Wrote (piece : Piece) (behind : Env) (before after : Text) (next : Env) : Type 0 where
  pub code : after ≡ written piece before
  pub env : next ≡ behind

-- only so many of the oldest variables have names
abbrev pub left : ℕ → Env → Env
left count env = record env { scope = drop (length env.scope - count) env.scope }
