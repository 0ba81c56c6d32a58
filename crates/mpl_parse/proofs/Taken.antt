-- Of tokens that are a light program's, that program is taken.
use Rattle.std.proofs.Common.{◌≡◌, ◌≤◌, ◌+◌, ◌*◌, ℕ, true, List, length, Option, Some, None, ap, sym, ◌∙◌, subst, arith}
use Rattle.mpl_ast.specs.declared.program.Program.{Program}
use Rattle.mpl_ast.specs.declared.token.Token.{Token}
use Rattle.mpl_mean.specs.Limits.{most_tokens}
use Rattle.mpl_mean.specs.Text.ParseFaults.{HasLightProgram}
use Rattle.mpl_mean.specs.Text.ProgramText.{spells}
use Rattle.mpl_mean.specs.Text.Weight.{is_light}
use Rattle.mpl_reader.specs.Reader.{most_number}
use Rattle.mpl_trees.specs.Programs.{take_program}

abbrev pub AreTaken : Type 0
AreTaken = (p : Program) (tokens : List Token) (limit : ℕ) → spells p tokens ≡ true → 12 * length tokens + 1 ≤ limit → take_program limit tokens ≡ Some p

-- a token pays for twelve nodes
numbered : (n : ℕ) → n ≤ most_tokens → 12 * n + 1 ≤ most_number
unfolding most_number
numbered n few = omega (arith, few)

pub taken : AreTaken → (tokens : List Token) → length tokens ≤ most_tokens → (h : HasLightProgram tokens) → take_program most_number tokens ≡ Some h.program
taken law tokens few h = law h.program tokens most_number h.spelled (numbered (length tokens) few)

pub never_stuck : (tokens left : List Token) (p : Program) → left ≡ tokens → take_program most_number tokens ≡ Some p → take_program most_number left ≡ None → ⊥
never_stuck tokens left p same some none = let e : take_program most_number tokens ≡ None = sym (ap (take_program most_number) same) ∙ none in cc (some, e)

pub same_program : (tokens left : List Token) (p q : Program) → left ≡ tokens → take_program most_number tokens ≡ Some p → take_program most_number left ≡ Some q → p ≡ q
same_program tokens left p q same some other = let e : take_program most_number tokens ≡ Some q = sym (ap (take_program most_number) same) ∙ other in cc (some, e)
