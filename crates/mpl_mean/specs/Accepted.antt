-- Which programs are accepted.
use Rattle.std.specs.Prelude.{◌≡◌, ◌≤◌, ℕ, true, List, length, Ok}
use Rattle.mpl_ast.specs.declared.program.Program.{Program}
use Rattle.mpl_ast.specs.declared.token.Token.{Token}
use Rattle.mpl_mean.specs.Limits.{most_source_bytes, most_tokens}
use Rattle.mpl_mean.specs.Text.Lexemes.{tokens_of}
use Rattle.mpl_mean.specs.Text.ProgramText.{spells}
use Rattle.mpl_mean.specs.Text.Weight.{is_light}
use Rattle.mpl_mean.specs.TypeRules.Rules.{is_typed}

-- A source is accepted as a program: within its limit it has tokens, which are the program's, none of them weighs too
-- much, and no type rule fails.
pub record IsAccepted (source : List ℕ) (p : Program) : Type 0 where
  pub short : length source ≤ most_source_bytes
  pub tokens : List Token
  pub lexed : tokens_of source ≡ Ok tokens
  pub spelled : spells p tokens ≡ true
  pub light : is_light p ≡ true
  pub typed : is_typed p ≡ true

-- What is known of a program alone that some source is accepted as.
pub record IsAcceptable (p : Program) : Type 0 where
  pub tokens : List Token
  pub short : length tokens ≤ most_tokens
  pub spelled : spells p tokens ≡ true
  pub light : is_light p ≡ true
  pub typed : is_typed p ≡ true
