-- The first fault of a source whose bytes are tokens.
use Rattle.std.specs.Prelude.{ℕ, List, [], length, Option, None, Ok, Err, Result}
use Rattle.mpl_ast.specs.declared.token.Token.{Token}
use Rattle.mpl_mean.specs.Text.Lexemes.{LexicalFault, tokens_of}
use Rattle.mpl_grammar.specs.Internal.Machine.{fault}
use Rattle.mpl_grammar.specs.declared.faults.Fault.{Fault}

abbrev pub first_fault : List ℕ → Option Fault
first_fault source = of_tokens (tokens_of source) where
  of_tokens : Result (List Token) (LexicalFault × ℕ) → Option Fault
  of_tokens (Ok tokens) = fault (length source) tokens []
  of_tokens (Err e) = None
