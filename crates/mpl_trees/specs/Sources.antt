-- Whether the parser takes a source.
use Rattle.std.specs.Prelude.{ℕ, ◌-◌, ◌^◌, Bool, true, false, List, Option, Some, None, Ok, Err, Result}
use Rattle.mpl_ast.specs.declared.program.Program.{Program}
use Rattle.mpl_ast.specs.declared.token.Token.{Token}
use Rattle.mpl_mean.specs.Text.Lexemes.{LexicalFault, tokens_of}
use Rattle.mpl_trees.specs.Programs.{take_program}

abbrev pub is_taken : List ℕ → Bool
is_taken source = of_tokens (tokens_of source) where
  is_some : Option Program → Bool
  is_some None = false
  is_some (Some p) = true

  of_tokens : Result (List Token) (LexicalFault × ℕ) → Bool
  of_tokens (Ok tokens) = is_some (take_program (2 ^ 32 - 1) tokens)
  of_tokens (Err e) = false
