-- The tokens of each form of expression and place.
use Rattle.std.proofs.Common.{◌≡◌, ℕ, ℤ, List, map}
use Rattle.mpl_ast.specs.declared.expression.Conjunction.{Conjunction, roll-Conjunction}
use Rattle.mpl_ast.specs.declared.expression.Equality.{Equality, roll-Equality}
use Rattle.mpl_ast.specs.declared.expression.Expression.{Expression, roll-Expression}
use Rattle.mpl_ast.specs.declared.expression.Place.{Place, roll-Place}
use Rattle.mpl_ast.specs.declared.expression.Primary.{Primary, roll-Primary}
use Rattle.mpl_ast.specs.declared.expression.Relation.{Relation, roll-Relation}
use Rattle.mpl_ast.specs.declared.expression.Sum.{Sum, roll-Sum}
use Rattle.mpl_ast.specs.declared.expression.Term.{Term, roll-Term}
use Rattle.mpl_ast.specs.declared.expression.Unary.{Unary, roll-Unary}
use Rattle.mpl_ast.specs.declared.expression.EqualityOperator.{EqualityOperator}
use Rattle.mpl_ast.specs.declared.expression.RelationOperator.{RelationOperator}
use Rattle.mpl_ast.specs.declared.expression.SumOperator.{SumOperator}
use Rattle.mpl_ast.specs.declared.expression.Target.{Target}
use Rattle.mpl_ast.specs.declared.expression.TermOperator.{TermOperator}
use Rattle.mpl_ast.specs.declared.expression.UnaryOperator.{UnaryOperator}
use Rattle.mpl_ast.specs.declared.expression.Conjunction.TheOpen.{Conjunction-F, Equality-F, Expression-F, Place-F, Primary-F, Relation-F, Sum-F, Term-F, Unary-F}
use Rattle.mpl_ast.specs.declared.place.At.{At}
use Rattle.mpl_ast.specs.declared.place.Name.{Name}
use Rattle.mpl_ast.specs.declared.token.Keyword.TheVariants as word
use Rattle.mpl_ast.specs.declared.token.Mark.TheVariants as m
use Rattle.mpl_mean.specs.Text.ExpressionText.{equality_mark, expression_text, place_text, relation_mark, sum_mark, target_text, term_mark, text_of_forms, unary_mark}
use Rattle.mpl_mean.specs.FirstForms.ExpressionLevels.{conjunction_text, equality_text, primary_text, relation_text, sum_text, term_text, unary_text}
use Rattle.mpl_mean.specs.Text.Reading.{◌>>◌, is_number, keyword, mark, mark_on, name, node, separated_if_any, token}
use Rattle.mpl_mean.proofs.ExpressionInduction.{conjunction_rolls, equality_rolls, expression_rolls, place_rolls, primary_rolls, relation_rolls, sum_rolls, term_rolls, unary_rolls}

pub one_conjunction-text : (at : At) (t : Conjunction) → expression_text (roll-Expression (Expression-F.OneConjunction at t)) ≡ node at (conjunction_text t)
one_conjunction-text at t = expression_rolls text_of_forms (Expression-F.OneConjunction at t)

pub or-text : (at : At) (line : ℕ) (l : Expression) (r : Conjunction) → expression_text (roll-Expression (Expression-F.Or at line l r)) ≡ node at (expression_text l >> mark_on line m.OrOr >> conjunction_text r)
or-text at line l r = expression_rolls text_of_forms (Expression-F.Or at line l r)

pub one_equality-text : (at : At) (t : Equality) → conjunction_text (roll-Conjunction (Conjunction-F.OneEquality at t)) ≡ node at (equality_text t)
one_equality-text at t = conjunction_rolls text_of_forms (Conjunction-F.OneEquality at t)

pub and-text : (at : At) (line : ℕ) (l : Conjunction) (r : Equality) → conjunction_text (roll-Conjunction (Conjunction-F.And at line l r)) ≡ node at (conjunction_text l >> mark_on line m.AndAnd >> equality_text r)
and-text at line l r = conjunction_rolls text_of_forms (Conjunction-F.And at line l r)

pub one_relation-text : (at : At) (t : Relation) → equality_text (roll-Equality (Equality-F.OneRelation at t)) ≡ node at (relation_text t)
one_relation-text at t = equality_rolls text_of_forms (Equality-F.OneRelation at t)

pub equate-text : (at : At) (line : ℕ) (l : Equality) (o : EqualityOperator) (r : Relation) → equality_text (roll-Equality (Equality-F.Equate at line l o r)) ≡ node at (equality_text l >> mark_on line (equality_mark o) >> relation_text r)
equate-text at line l o r = equality_rolls text_of_forms (Equality-F.Equate at line l o r)

pub one_sum-text : (at : At) (t : Sum) → relation_text (roll-Relation (Relation-F.OneSum at t)) ≡ node at (sum_text t)
one_sum-text at t = relation_rolls text_of_forms (Relation-F.OneSum at t)

pub compare-text : (at : At) (line : ℕ) (l : Relation) (o : RelationOperator) (r : Sum) → relation_text (roll-Relation (Relation-F.Compare at line l o r)) ≡ node at (relation_text l >> mark_on line (relation_mark o) >> sum_text r)
compare-text at line l o r = relation_rolls text_of_forms (Relation-F.Compare at line l o r)

pub one_term-text : (at : At) (t : Term) → sum_text (roll-Sum (Sum-F.OneTerm at t)) ≡ node at (term_text t)
one_term-text at t = sum_rolls text_of_forms (Sum-F.OneTerm at t)

pub add-text : (at : At) (line : ℕ) (l : Sum) (o : SumOperator) (r : Term) → sum_text (roll-Sum (Sum-F.Add at line l o r)) ≡ node at (sum_text l >> mark_on line (sum_mark o) >> term_text r)
add-text at line l o r = sum_rolls text_of_forms (Sum-F.Add at line l o r)

pub one_unary-text : (at : At) (t : Unary) → term_text (roll-Term (Term-F.OneUnary at t)) ≡ node at (unary_text t)
one_unary-text at t = term_rolls text_of_forms (Term-F.OneUnary at t)

pub multiply-text : (at : At) (line : ℕ) (l : Term) (o : TermOperator) (r : Unary) → term_text (roll-Term (Term-F.Multiply at line l o r)) ≡ node at (term_text l >> mark_on line (term_mark o) >> unary_text r)
multiply-text at line l o r = term_rolls text_of_forms (Term-F.Multiply at line l o r)

pub one_primary-text : (at : At) (t : Primary) → unary_text (roll-Unary (Unary-F.OnePrimary at t)) ≡ node at (primary_text t)
one_primary-text at t = unary_rolls text_of_forms (Unary-F.OnePrimary at t)

pub apply-text : (at : At) (line : ℕ) (o : UnaryOperator) (t : Unary) → unary_text (roll-Unary (Unary-F.Apply at line o t)) ≡ node at (mark_on line (unary_mark o) >> unary_text t)
apply-text at line o t = unary_rolls text_of_forms (Unary-F.Apply at line o t)

pub number-text : (at : At) (value : ℤ) → primary_text (roll-Primary (Primary-F.Number at value)) ≡ node at (token (λ t. is_number value t.kind))
number-text at value = primary_rolls text_of_forms (Primary-F.Number at value)

pub true-text : (at : At) → primary_text (roll-Primary (Primary-F.True at)) ≡ node at (keyword word.True)
true-text at = primary_rolls text_of_forms (Primary-F.True at)

pub false-text : (at : At) → primary_text (roll-Primary (Primary-F.False at)) ≡ node at (keyword word.False)
false-text at = primary_rolls text_of_forms (Primary-F.False at)

pub own-text : (at : At) → primary_text (roll-Primary (Primary-F.Own at)) ≡ node at (keyword word.Own)
own-text at = primary_rolls text_of_forms (Primary-F.Own at)

pub read-text : (at : At) (p : Place) → primary_text (roll-Primary (Primary-F.Read at p)) ≡ node at (place_text p)
read-text at p = primary_rolls text_of_forms (Primary-F.Read at p)

pub input-text : (at : At) → primary_text (roll-Primary (Primary-F.Input at)) ≡ node at (keyword word.Input >> mark m.OpenParenthesis >> mark m.CloseParenthesis)
input-text at = primary_rolls text_of_forms (Primary-F.Input at)

pub call-text : (at : At) (f : Name) (es : List Expression) → primary_text (roll-Primary (Primary-F.CallPlain at f es)) ≡ node at (name f >> mark m.OpenParenthesis >> separated_if_any (map expression_text es) >> mark m.CloseParenthesis)
call-text at f es = primary_rolls text_of_forms (Primary-F.CallPlain at f es)

pub parenthesized-text : (at : At) (e : Expression) → primary_text (roll-Primary (Primary-F.Parenthesized at e)) ≡ node at (mark m.OpenParenthesis >> expression_text e >> mark m.CloseParenthesis)
parenthesized-text at e = primary_rolls text_of_forms (Primary-F.Parenthesized at e)

pub whole-text : (at : At) (t : Target) → place_text (roll-Place (Place-F.Whole at t)) ≡ node at (target_text t)
whole-text at t = place_rolls text_of_forms (Place-F.Whole at t)

pub element-text : (at : At) (line : ℕ) (t : Target) (e : Expression) → place_text (roll-Place (Place-F.Element at line t e)) ≡ node at (target_text t >> mark_on line m.OpenBracket >> expression_text e >> mark m.CloseBracket)
element-text at line t e = place_rolls text_of_forms (Place-F.Element at line t e)
