-- Every expression and every place is taken.
use Rattle.std.proofs.Common.{refl}
use Rattle.mpl_ast.specs.declared.expression.Expression.{Expression}
use Rattle.mpl_ast.specs.declared.expression.Place.{Place}
use Rattle.mpl_ast.specs.declared.token.Mark.TheVariants as m
use Rattle.mpl_mean.specs.FirstForms.ExpressionLevels.{conjunction_text, equality_text, relation_text, sum_text, term_text}
use Rattle.mpl_mean.specs.Text.ExpressionText.{equality_mark, expression_text, relation_mark, sum_mark, term_mark}
use Rattle.mpl_trees.specs.declared.piece.Sole.TheVariants.{TheOperator}
use Rattle.mpl_trees.specs.Folds.{conjunctions, equalities, expressions, next_equality, next_relation, next_sum, next_term, next_unary, relations, sums, terms}
use Rattle.mpl_trees.proofs.FormTexts.{add-text, and-text, compare-text, equate-text, multiply-text, one_conjunction-text, one_equality-text, one_relation-text, one_sum-text, one_term-text, one_unary-text, or-text}
use Rattle.mpl_mean.proofs.ExpressionInduction.{EachNode, Properties, by_nodes, place_by_nodes}
use Rattle.mpl_trees.proofs.Operators.{equality_found, equality_is, is_and_and, is_or_or, relation_found, relation_is, sum_found, sum_is, term_found, term_is}
use Rattle.mpl_trees.proofs.Levels.{IsChain, IsExpression, IsUnary, chain-is, more-is, one-is, unary-is}
use Rattle.mpl_trees.proofs.Places.{IsPlace, element-is, whole-is}
use Rattle.mpl_trees.proofs.Primaries.{IsPrimary, call-is, false-is, input-is, number-is, own-is, parenthesized-is, read-is, true-is}
use Rattle.mpl_trees.proofs.Unaries.{apply-is, one_primary-is}

abbrev taken : Properties
taken = record {
  conjunction = IsChain 4 3 conjunctions next_equality conjunction_text;
  equality = IsChain 3 4 equalities next_relation equality_text;
  expression = IsExpression;
  place = IsPlace;
  primary = IsPrimary;
  relation = IsChain 2 5 relations next_sum relation_text;
  sum = IsChain 1 6 sums next_term sum_text;
  term = IsChain 0 7 terms next_unary term_text;
  unary = IsUnary;
}

nodes : EachNode taken
nodes = record {
  one_conjunction = λ at t i. one-is expressions expression_text at (one_conjunction-text at t) (chain-is i);
  or = λ at line l r i j. more-is expressions expression_text at line TheOperator m.OrOr is_or_or refl (or-text at line l r) i (chain-is j);
  one_equality = λ at t i. one-is conjunctions conjunction_text at (one_equality-text at t) (chain-is i);
  and = λ at line l r i j. more-is conjunctions conjunction_text at line TheOperator m.AndAnd is_and_and refl (and-text at line l r) i (chain-is j);
  one_relation = λ at t i. one-is equalities equality_text at (one_relation-text at t) (chain-is i);
  equate = λ at line l o r i j. more-is equalities equality_text at line o (equality_mark o) (equality_is o) (equality_found o) (equate-text at line l o r) i (chain-is j);
  one_sum = λ at t i. one-is relations relation_text at (one_sum-text at t) (chain-is i);
  compare = λ at line l o r i j. more-is relations relation_text at line o (relation_mark o) (relation_is o) (relation_found o) (compare-text at line l o r) i (chain-is j);
  one_term = λ at t i. one-is sums sum_text at (one_term-text at t) (chain-is i);
  add = λ at line l o r i j. more-is sums sum_text at line o (sum_mark o) (sum_is o) (sum_found o) (add-text at line l o r) i (chain-is j);
  one_unary = λ at t i. one-is terms term_text at (one_unary-text at t) (unary-is i);
  multiply = λ at line l o r i j. more-is terms term_text at line o (term_mark o) (term_is o) (term_found o) (multiply-text at line l o r) i (unary-is j);
  one_primary = one_primary-is;
  apply = apply-is;
  number = number-is;
  true = true-is;
  false = false-is;
  own = own-is;
  read = read-is;
  input = input-is;
  call = call-is;
  parenthesized = parenthesized-is;
  whole = whole-is;
  element = element-is;
}

pub expression-is : (e : Expression) → IsExpression e
expression-is = by_nodes taken nodes

pub place-is : (p : Place) → IsPlace p
place-is = place_by_nodes taken nodes
