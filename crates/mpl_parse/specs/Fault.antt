-- What a fault of the parser says of the tokens.
use Rattle.mpl_ast.specs.declared.token.Tokens.{Tokens}
use Rattle.mpl_mean.specs.Text.ParseFaults.{IsSyntaxFault, IsTooDeep}
use Rattle.mpl_parse.specs.declared.parser.ParseFault.{ParseFault}
use Rattle.mpl_parse.specs.declared.parser.ParseFault.TheVariants as fault

abbrev pub IsFault : Tokens → ParseFault → Type 0
IsFault tokens (fault.Syntax at) = IsSyntaxFault tokens.list tokens.end at
IsFault tokens (fault.TooDeep at) = IsTooDeep tokens.list at
IsFault tokens fault.NoMemory = Unit {0}
