-- What an answer says of the tokens: that a program has them, which is light, or that they have this fault.
use Rattle.std.specs.Prelude.{ℕ, List, Option, Some, None}
use Rattle.mpl_ast.specs.declared.token.Token.{Token}
use Rattle.mpl_mean.specs.Text.ParseFaults.{HasLightProgram, IsSyntaxFault, IsTooDeep}
use Rattle.mpl_grammar.specs.declared.faults.Fault.{Fault}
use Rattle.mpl_grammar.specs.declared.faults.Fault.TheVariants.{Syntax, TooDeep}

abbrev pub FaultFits : List Token → ℕ → Option Fault → Type 0
FaultFits tokens end None = HasLightProgram tokens
FaultFits tokens end (Some (Syntax at)) = IsSyntaxFault tokens end at
FaultFits tokens end (Some (TooDeep at)) = IsTooDeep tokens at
