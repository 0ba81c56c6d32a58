-- The tree of a source, as the parser takes it, is the program that has its tokens.
use Rattle.std.proofs.Common.{◌≡◌, ◌+◌, ◌*◌, ℕ, true, List, [], length, ℤ, Option, Some, None, Ok, Err, Result, sym, ◌∙◌, subst, arith}
use Rattle.mpl_ast.specs.declared.program.Program.{Program}
use Rattle.mpl_ast.specs.declared.token.Token.{Token}
use Rattle.mpl_value.specs.declared.body.Yield.{Yield}
use Rattle.mpl_mean.specs.Meaning.DirectRun.{direct_run}
use Rattle.mpl_mean.specs.Text.Lexemes.{LexicalFault, tokens_of}
use Rattle.mpl_mean.specs.Text.ProgramText.{spells}
use Rattle.mpl_grammar.specs.Internal.Machine.{is_accepted, trace}
use Rattle.mpl_grammar.proofs.Accepted.{accepted-spelled}
use Rattle.mpl_trees.specs.Programs.{take_program}
use Rattle.mpl_trees.proofs.Programs.{program-taken}
use Rattle.mpl_worked.specs.SourceRuns.{SourceRuns}

abbrev given_tokens : Result (List Token) (LexicalFault × ℕ) → List Token
given_tokens (Ok tokens) = tokens
given_tokens (Err e) = []

abbrev pub all_tokens : List ℕ → List Token
all_tokens source = given_tokens (tokens_of source)

abbrev given_program : Option Program → Program
given_program None = record { at = record { span = record { from = 0; to = 0 }; line = 1; id = 0 }; declarations = [] }
given_program (Some p) = p

abbrev pub taken : List Token → Option Program
taken tokens = take_program (12 * length tokens + 1) tokens

abbrev pub tree_of : List ℕ → Program
tree_of source = given_program (taken (all_tokens source))

some_program : {p q : Program} → ◌≡◌ {A = Option Program} (Some p) (Some q) → p ≡ q
some_program e = cc

pub spelled_tree : (tokens : List Token) (p : Program) → is_accepted (trace tokens []) ≡ true → taken tokens ≡ Some p → spells p tokens ≡ true
spelled_tree tokens p h e =
    let s = accepted-spelled tokens h in
    let same = some_program (sym (program-taken s.program tokens (12 * length tokens + 1) s.spelled (omega arith)) ∙ e) in
    subst (λ p. spells p tokens ≡ true) same s.spelled

pub source_runs : (source : List ℕ) (input : List ℤ) (turns : ℕ) (yield : Yield) → tokens_of source ≡ Ok (all_tokens source) → is_accepted (trace (all_tokens source) []) ≡ true → taken (all_tokens source) ≡ Some (tree_of source)
    → direct_run (tree_of source) input turns ≡ yield → SourceRuns source input turns yield
source_runs source input turns yield lexed accepted parsed does = record {
  tokens = all_tokens source;
  tokens_are = lexed;
  program = tree_of source;
  spelled = spelled_tree (all_tokens source) (tree_of source) accepted parsed;
  runs = does;
}
