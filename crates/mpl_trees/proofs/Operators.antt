-- Operators between operands, and how many of a level they make.
use Rattle.std.proofs.Common.{◌≡◌, ℕ, suc, ◌<◌, Bool, false, Some, refl, ap, ◌∙◌, eq-eqb, arith}
use Rattle.std.proofs.lemmas.Bool.{le-leb, lt-leb, ne_eqb}
use Rattle.mpl_ast.specs.declared.expression.EqualityOperator.{EqualityOperator}
use Rattle.mpl_ast.specs.declared.expression.EqualityOperator.TheVariants.{Equal, Unequal}
use Rattle.mpl_ast.specs.declared.expression.RelationOperator.{RelationOperator}
use Rattle.mpl_ast.specs.declared.expression.RelationOperator.TheVariants as relation
use Rattle.mpl_ast.specs.declared.expression.SumOperator.{SumOperator}
use Rattle.mpl_ast.specs.declared.expression.SumOperator.TheVariants as sum
use Rattle.mpl_ast.specs.declared.expression.TermOperator.{TermOperator}
use Rattle.mpl_ast.specs.declared.expression.TermOperator.TheVariants as term
use Rattle.mpl_ast.specs.declared.token.Mark.{Mark}
use Rattle.mpl_ast.specs.declared.token.Mark.TheVariants as m
use Rattle.mpl_ast.specs.declared.token.TokenKind.{TokenKind}
use Rattle.mpl_ast.specs.declared.token.TokenKind.TheVariants as kind
use Rattle.mpl_mean.specs.Text.ExpressionText.{equality_mark, relation_mark, sum_mark, term_mark}
use Rattle.mpl_mean.specs.Text.Reading.{Rest, is_mark}
use Rattle.mpl_trees.specs.Ahead.{count, counted, level_of, tally}
use Rattle.mpl_trees.specs.Folds.{equality_operator, relation_operator, sum_operator, term_operator}
use Rattle.mpl_trees.specs.Rows.{take_joint}
use Rattle.mpl_trees.specs.Taking.{is_ahead}
use Rattle.mpl_trees.proofs.Took.{Took, past-took}
use Rattle.mpl_trees.proofs.Insides.{Plain, star, slash, percent, plus, minus, less, greater, less_equal, greater_equal, equal_equal, not_equal, and_and, or_or, counts}
use Rattle.mpl_trees.specs.declared.position.Position.{Position}
use Rattle.mpl_trees.specs.declared.position.Position.TheVariants.{Before, Behind}

-- the operators of each level
pub data IsOperator : ℕ → Mark → Type 0 where
  is_star : IsOperator 0 m.Star
  is_slash : IsOperator 0 m.Slash
  is_percent : IsOperator 0 m.Percent
  is_plus : IsOperator 1 m.Plus
  is_minus : IsOperator 1 m.Minus
  is_less : IsOperator 2 m.Less
  is_greater : IsOperator 2 m.Greater
  is_less_equal : IsOperator 2 m.LessEqual
  is_greater_equal : IsOperator 2 m.GreaterEqual
  is_equal_equal : IsOperator 3 m.EqualEqual
  is_not_equal : IsOperator 3 m.NotEqual
  is_and_and : IsOperator 4 m.AndAnd
  is_or_or : IsOperator 5 m.OrOr

-- what an operator's mark does
pub record OperatorFacts (l : ℕ) (o : Mark) : Type 0 where
  pub level : level_of o ≡ Some l
  pub behind : (i : ℕ) (go : Position → ℕ) → counted i (kind.Mark o) Behind go ≡ tally i (Some l) (go Before)
  pub plain : Plain o
  pub no_parenthesis : is_mark m.OpenParenthesis (kind.Mark o) ≡ false
  pub no_bracket : is_mark m.OpenBracket (kind.Mark o) ≡ false
  pub no_dot : is_mark m.Dot (kind.Mark o) ≡ false

pub facts : {l : ℕ} {o : Mark} → IsOperator l o → OperatorFacts l o
facts is_star = record { level = refl; behind = λ i go. refl; plain = star; no_parenthesis = refl; no_bracket = refl; no_dot = refl }
facts is_slash = record { level = refl; behind = λ i go. refl; plain = slash; no_parenthesis = refl; no_bracket = refl; no_dot = refl }
facts is_percent = record { level = refl; behind = λ i go. refl; plain = percent; no_parenthesis = refl; no_bracket = refl; no_dot = refl }
facts is_plus = record { level = refl; behind = λ i go. refl; plain = plus; no_parenthesis = refl; no_bracket = refl; no_dot = refl }
facts is_minus = record { level = refl; behind = λ i go. refl; plain = minus; no_parenthesis = refl; no_bracket = refl; no_dot = refl }
facts is_less = record { level = refl; behind = λ i go. refl; plain = less; no_parenthesis = refl; no_bracket = refl; no_dot = refl }
facts is_greater = record { level = refl; behind = λ i go. refl; plain = greater; no_parenthesis = refl; no_bracket = refl; no_dot = refl }
facts is_less_equal = record { level = refl; behind = λ i go. refl; plain = less_equal; no_parenthesis = refl; no_bracket = refl; no_dot = refl }
facts is_greater_equal = record { level = refl; behind = λ i go. refl; plain = greater_equal; no_parenthesis = refl; no_bracket = refl; no_dot = refl }
facts is_equal_equal = record { level = refl; behind = λ i go. refl; plain = equal_equal; no_parenthesis = refl; no_bracket = refl; no_dot = refl }
facts is_not_equal = record { level = refl; behind = λ i go. refl; plain = not_equal; no_parenthesis = refl; no_bracket = refl; no_dot = refl }
facts is_and_and = record { level = refl; behind = λ i go. refl; plain = and_and; no_parenthesis = refl; no_bracket = refl; no_dot = refl }
facts is_or_or = record { level = refl; behind = λ i go. refl; plain = or_or; no_parenthesis = refl; no_bracket = refl; no_dot = refl }

-- ---- the operators of trees

pub term_is : (o : TermOperator) → IsOperator 0 (term_mark o)
term_is term.Times = is_star
term_is term.Over = is_slash
term_is term.Modulo = is_percent

pub sum_is : (o : SumOperator) → IsOperator 1 (sum_mark o)
sum_is sum.Plus = is_plus
sum_is sum.Minus = is_minus

pub relation_is : (o : RelationOperator) → IsOperator 2 (relation_mark o)
relation_is relation.Less = is_less
relation_is relation.LessEqual = is_less_equal
relation_is relation.Greater = is_greater
relation_is relation.GreaterEqual = is_greater_equal

pub equality_is : (o : EqualityOperator) → IsOperator 3 (equality_mark o)
equality_is Equal = is_equal_equal
equality_is Unequal = is_not_equal

pub term_found : (o : TermOperator) → term_operator (term_mark o) ≡ Some o
term_found term.Times = refl
term_found term.Over = refl
term_found term.Modulo = refl

pub sum_found : (o : SumOperator) → sum_operator (sum_mark o) ≡ Some o
sum_found sum.Plus = refl
sum_found sum.Minus = refl

pub relation_found : (o : RelationOperator) → relation_operator (relation_mark o) ≡ Some o
relation_found relation.Less = refl
relation_found relation.LessEqual = refl
relation_found relation.Greater = refl
relation_found relation.GreaterEqual = refl

pub equality_found : (o : EqualityOperator) → equality_operator (equality_mark o) ≡ Some o
equality_found Equal = refl
equality_found Unequal = refl

-- ---- tallies

pub tally-same : (i n : ℕ) → tally i (Some i) n ≡ suc n
tally-same i n = rw (eq-eqb i i refl) refl

pub tally-lower : (i l n : ℕ) → l < i → tally i (Some l) n ≡ n
tally-lower i l n h = rw (ne_eqb l i (λ e. omega (arith, e, h)), le-leb l i (omega (arith, h))) refl

pub tally-higher : (i l n : ℕ) → i < l → tally i (Some l) n ≡ 0
tally-higher i l n h = rw (ne_eqb l i (λ e. omega (arith, e, h)), lt-leb l i h) refl

-- ---- operators over tokens

pub operator-counted : {l : ℕ} {o : Mark} {r x : Rest} (i : ℕ) → IsOperator l o → Took (kind.Mark o) r x → count i Behind r.tokens ≡ tally i (Some l) (count i Before x.tokens)
operator-counted {x = x} i p t = counts Behind i t ∙ (facts p).behind i (λ q. count i q x.tokens)

-- nothing goes on that is no operator
pub record Follows (x : Rest) : Type 0 where
  pub parenthesis : is_ahead (is_mark m.OpenParenthesis) x.tokens ≡ false
  pub bracket : is_ahead (is_mark m.OpenBracket) x.tokens ≡ false
  pub dot : is_ahead (is_mark m.Dot) x.tokens ≡ false

pub is_ahead-took : {k : TokenKind} {r x : Rest} (test : TokenKind → Bool) → Took k r x → is_ahead test r.tokens ≡ test k
is_ahead-took test t = ap (is_ahead test) t.first ∙ ap test t.kind

pub follows-operator : {l : ℕ} {o : Mark} {r x : Rest} → IsOperator l o → Took (kind.Mark o) r x → Follows r
follows-operator p t =
    let f = facts p in
    record {
      parenthesis = is_ahead-took (is_mark m.OpenParenthesis) t ∙ f.no_parenthesis;
      bracket = is_ahead-took (is_mark m.OpenBracket) t ∙ f.no_bracket;
      dot = is_ahead-took (is_mark m.Dot) t ∙ f.no_dot;
    }

pub joint-took : {l : ℕ} {o : Mark} {r x : Rest} → IsOperator l o → (t : Took (kind.Mark o) r x) → take_joint r ≡ Some (record { sign = record { line = t.token.line; mark = o }; level = l; rest = x })
joint-took p t = rw (t.first, t.kind, (facts p).level, past-took t) refl
