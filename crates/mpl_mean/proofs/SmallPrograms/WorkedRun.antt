-- A worked program, from its bytes over its tokens and its tree to what it does: `int main() { print(1 + 2); }`.
use Rattle.std.proofs.Common.{◌≡◌, ℕ, Bool, ap, List, [], ◌∷◌, ◌++◌, Ok, None, refl, true, pos}
use Rattle.std.specs.Prelude.{codes}
use Rattle.std.specs.Fmt.{digits}
use Rattle.std.specs.FinMap.{empty}
use Rattle.mpl_ast.specs.declared.expression.Conjunction.{roll-Conjunction, fold-roll-Conjunction}
use Rattle.mpl_ast.specs.declared.expression.Equality.{roll-Equality, fold-roll-Equality}
use Rattle.mpl_ast.specs.declared.expression.Expression.{Expression, roll-Expression, fold-roll-Expression}
use Rattle.mpl_ast.specs.declared.expression.Primary.{roll-Primary, fold-roll-Primary}
use Rattle.mpl_ast.specs.declared.expression.Relation.{roll-Relation, fold-roll-Relation}
use Rattle.mpl_ast.specs.declared.expression.Sum.{Sum, roll-Sum, fold-roll-Sum}
use Rattle.mpl_ast.specs.declared.expression.SumOperator.TheVariants.{Plus}
use Rattle.mpl_ast.specs.declared.expression.Term.{Term, roll-Term, fold-roll-Term}
use Rattle.mpl_ast.specs.declared.expression.Unary.{roll-Unary, fold-roll-Unary}
use Rattle.mpl_ast.specs.declared.expression.Conjunction.TheOpen.{Conjunction-F, Equality-F, Expression-F, Primary-F, Relation-F, Sum-F, Term-F, Unary-F}
use Rattle.mpl_ast.specs.declared.place.At.{At}
use Rattle.mpl_ast.specs.declared.program.Declaration.TheVariants.{Function}
use Rattle.mpl_ast.specs.declared.program.Program.{Program}
use Rattle.mpl_ast.specs.declared.statement.Statement.{Statement, roll-Statement, fold-roll-Statement}
use Rattle.mpl_ast.specs.declared.statement.Statement.TheOpen.{Statement-F}
use Rattle.mpl_ast.specs.declared.statement.TypeName.TheVariants.{Int}
use Rattle.mpl_ast.specs.declared.token.Keyword.TheVariants as word
use Rattle.mpl_ast.specs.declared.token.Mark.TheVariants as m
use Rattle.mpl_ast.specs.declared.token.Token.{Token}
use Rattle.mpl_ast.specs.declared.token.TokenKind.{TokenKind}
use Rattle.mpl_ast.specs.declared.token.TokenKind.TheVariants as kind
use Rattle.mpl_value.specs.declared.body.BodyEnd.TheVariants.{Done}
use Rattle.mpl_value.specs.declared.body.BodyResult.TheVariants.{Open}
use Rattle.mpl_value.specs.declared.body.Yield.{Yield}
use Rattle.mpl_value.specs.Arithmetic.{sum}
use Rattle.mpl_mean.specs.FirstForms.FirstForm.{is_first_form}
use Rattle.mpl_mean.specs.Meaning.DirectRun.{direct_run}
use Rattle.mpl_mean.specs.Text.Lexemes.{tokens_of}
use Rattle.mpl_mean.specs.Meaning.BodyMeaning.{callees_at, context_with, main_yield, store_with}
use Rattle.mpl_mean.specs.Meaning.ExpressionMeaning.{Evaluates, value_of, arithmetic_of}
use Rattle.mpl_mean.specs.Meaning.StatementMeaning.{Does, does, line_of}
use Rattle.mpl_mean.specs.Meaning.Values.{int_value}
use Rattle.mpl_mean.specs.Text.ProgramText.{spells, nothing_left, all_of}
use Rattle.mpl_mean.specs.Text.Reading.{Reads, ◌>>◌, node, token, is_number, keyword, mark, mark_on, name, each, separated, optional}
use Rattle.mpl_mean.specs.Text.StatementText.{StatementText, statement_of, closed, block_of}
use Rattle.mpl_mean.specs.Meaning.Store.{◌>>=◌, pure, spend, in_turn, printed, all_of as all_values}
use Rattle.mpl_mean.specs.Text.Weight.{Weighs, weights, statement_weighs, plain, bracketed, with_commas, whole, binary, in_order, no_token, ◌⨾◌}

-- a token and a node of the first line
abbrev on_line : ℕ → ℕ → TokenKind → Token
on_line from to kind = record { kind = kind; span = record { from = from; to = to }; line = 1 }

abbrev at : ℕ → ℕ → ℕ → At
at from to id = record { span = record { from = from; to = to }; line = 1; id = id }

abbrev tokens : List Token
tokens =
    on_line 0 3 (kind.Keyword word.Int) ∷ on_line 4 8 (kind.Name (codes "main")) ∷ on_line 8 9 (kind.Mark m.OpenParenthesis)
    ∷ on_line 9 10 (kind.Mark m.CloseParenthesis) ∷ on_line 11 12 (kind.Mark m.OpenBrace) ∷ on_line 13 18 (kind.Keyword word.Print)
    ∷ on_line 18 19 (kind.Mark m.OpenParenthesis) ∷ on_line 19 20 (kind.Number (pos 1)) ∷ on_line 21 22 (kind.Mark m.Plus)
    ∷ on_line 23 24 (kind.Number (pos 2)) ∷ on_line 24 25 (kind.Mark m.CloseParenthesis) ∷ on_line 25 26 (kind.Mark m.Semicolon)
    ∷ on_line 27 28 (kind.Mark m.CloseBrace) ∷ []

abbrev one : Term
one = roll-Term (Term-F.OneUnary (at 19 20 11) (roll-Unary (Unary-F.OnePrimary (at 19 20 12) (roll-Primary (Primary-F.Number (at 19 20 13) (pos 1))))))

abbrev two : Term
two = roll-Term (Term-F.OneUnary (at 23 24 14) (roll-Unary (Unary-F.OnePrimary (at 23 24 15) (roll-Primary (Primary-F.Number (at 23 24 16) (pos 2))))))

abbrev both : Sum
both = roll-Sum (Sum-F.Add (at 19 24 9) 1 (roll-Sum (Sum-F.OneTerm (at 19 20 10) one)) Plus two)

abbrev argument : Expression
argument =
    roll-Expression (Expression-F.OneConjunction (at 19 24 5) (roll-Conjunction (Conjunction-F.OneEquality (at 19 24 6)
    (roll-Equality (Equality-F.OneRelation (at 19 24 7) (roll-Relation (Relation-F.OneSum (at 19 24 8) both)))))))

abbrev statement : Statement
statement = roll-Statement (Statement-F.Print (at 13 26 4) (argument ∷ []))

abbrev program : Program
program = record {
  at = at 0 28 0;
  declarations = Function (at 0 28 1) (Int (at 0 3 2)) (record { from = 4; text = codes "main" }) None (record { at = at 11 28 3; mark_line = 1; statements = statement ∷ [] }) ∷ [];
}

-- what a fold makes of each layer
ruleset layers = (fold-roll-Expression, fold-roll-Conjunction, fold-roll-Equality, fold-roll-Relation, fold-roll-Sum, fold-roll-Term, fold-roll-Unary, fold-roll-Primary, fold-roll-Statement)

has_tokens : tokens_of (codes "int main() { print(1 + 2); }") ≡ Ok tokens
has_tokens = refl

-- ---- what the tree reads

abbrev argument_reads : Reads
argument_reads =
    node (at 19 24 5) (node (at 19 24 6) (node (at 19 24 7) (node (at 19 24 8) (node (at 19 24 9)
    (node (at 19 20 10) (node (at 19 20 11) (node (at 19 20 12) (node (at 19 20 13) (token (λ t. is_number (pos 1) t.kind)))))
    >> mark_on 1 m.Plus
    >> node (at 23 24 14) (node (at 23 24 15) (node (at 23 24 16) (token (λ t. is_number (pos 2) t.kind)))))))))

statement_reads : statement_of statement ≡ closed (node (at 13 26 4) (keyword word.Print >> mark m.OpenParenthesis >> separated (argument_reads ∷ []) >> mark m.CloseParenthesis >> mark m.Semicolon))
statement_reads = simp layers

abbrev spelled_with : Reads → Bool
spelled_with reads = nothing_left (node (at 0 28 0) (each (node (at 0 28 1) (node (at 0 3 2) (keyword word.Int) >> name (record { from = 4; text = codes "main" })
    >> mark m.OpenParenthesis >> optional None >> mark m.CloseParenthesis >> block_of (at 11 28 3) 1 (reads ∷ [])) ∷ [])) (all_of tokens))

spells_them : spells program tokens ≡ true
spells_them = ap (λ (s : StatementText). spelled_with s.text) statement_reads

is_among_them : is_first_form program ≡ true
is_among_them = simp layers

-- ---- what its tokens weigh

statement_weight : statement_weighs statement ≡ plain ⨾ bracketed (with_commas (whole (binary plain plain) ∷ [])) ⨾ plain
statement_weight = simp layers

abbrev weights_with : Weighs → List ℕ
weights_with weighs = (((plain ⨾ plain ⨾ bracketed no_token ⨾ bracketed (in_order (weighs ∷ []))) ⨾ no_token) 0).weights

has_weights : weights program ≡ 0 ∷ 0 ∷ 1 ∷ 0 ∷ 1 ∷ 1 ∷ 2 ∷ 2 ∷ 3 ∷ 3 ∷ 1 ∷ 1 ∷ 0 ∷ []
has_weights = ap weights_with statement_weight

-- ---- what it does

abbrev argument_value : Evaluates
argument_value = arithmetic_of 1 sum (λ _. pure (int_value (pos 1))) (λ _. pure (int_value (pos 2)))

argument_means : value_of argument ≡ argument_value
argument_means = simp layers

-- what prints the value of its one argument
abbrev prints : Evaluates → Does
prints argument context = all_values (argument context ∷ []) >>= (λ values. printed (line_of values))

statement_does : does statement ≡ prints argument_value
statement_does = simp fold-roll-Statement (ap prints argument_means)

abbrev run_with : Does → Yield
run_with step = main_yield ((spend 1 >>= (λ _. in_turn (step (context_with program.declarations 1 empty (callees_at 1 program.declarations 1 empty)) ∷ []))) (store_with [] [] [] 0))

runs : direct_run program [] 1 ≡ record { lines = codes "3" ++ 10 ∷ []; calls = []; creations = []; result = Open; state = []; turns = 1; end = Done }
unfolding digits
runs = ap run_with statement_does
