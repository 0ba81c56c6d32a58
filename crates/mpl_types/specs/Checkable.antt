-- Which programs can be checked: those that some tokens have, not too many and none of them too heavy.
use Rattle.std.specs.Prelude.{◌≡◌, ◌≤◌, true, List, length}
use Rattle.mpl_ast.specs.declared.program.Program.{Program}
use Rattle.mpl_ast.specs.declared.token.Token.{Token}
use Rattle.mpl_mean.specs.Limits.{most_tokens}
use Rattle.mpl_mean.specs.Text.ProgramText.{spells}
use Rattle.mpl_mean.specs.Text.Weight.{is_light}

pub record IsCheckable (p : Program) : Type 0 where
  pub tokens : List Token
  pub short : length tokens ≤ most_tokens
  pub spelled : spells p tokens ≡ true
  pub light : is_light p ≡ true
