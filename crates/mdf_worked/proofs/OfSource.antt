-- What holds of the program of a source.
use Rattle.std.proofs.Common.{◌≡◌, ℕ, true, List, [], Some, Ok}
use Rattle.mpl_ast.specs.declared.program.Program.{Program}
use Rattle.mpl_mean.specs.Text.Lexemes.{tokens_of}
use Rattle.mpl_grammar.specs.Internal.Machine.{is_accepted, trace}
use Rattle.mpl_worked.proofs.TreeOfSource.{all_tokens, spelled_tree, taken, tree_of}
use Rattle.mdf_worked.specs.WorkedJournals.{HasProgram}

pub has_program : (source : List ℕ) (P : Program → Type 0) → tokens_of source ≡ Ok (all_tokens source) → is_accepted (trace (all_tokens source) []) ≡ true → taken (all_tokens source) ≡ Some (tree_of source)
    → P (tree_of source) → HasProgram source P
has_program source P lexed accepted parsed holds = record {
  tokens = all_tokens source;
  tokens_are = lexed;
  program = tree_of source;
  spelled = spelled_tree (all_tokens source) (tree_of source) accepted parsed;
  holds = holds;
}
