-- What the program of a source does.
use Rattle.std.specs.Prelude.{◌≡◌, ℕ, true, List, ℤ, Ok}
use Rattle.mpl_ast.specs.declared.program.Program.{Program}
use Rattle.mpl_ast.specs.declared.token.Token.{Token}
use Rattle.mpl_value.specs.declared.body.Yield.{Yield}
use Rattle.mpl_mean.specs.Meaning.DirectRun.{direct_run}
use Rattle.mpl_mean.specs.Text.Lexemes.{tokens_of}
use Rattle.mpl_mean.specs.Text.ProgramText.{spells}

-- a program has the tokens of the source, and does this
pub record SourceRuns (source : List ℕ) (input : List ℤ) (turns : ℕ) (yield : Yield) : Type 0 where
  pub tokens : List Token
  pub tokens_are : tokens_of source ≡ Ok tokens
  pub program : Program
  pub spelled : spells program tokens ≡ true
  pub runs : direct_run program input turns ≡ yield
