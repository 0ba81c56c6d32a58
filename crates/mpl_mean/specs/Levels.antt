-- Expressions without their levels. The grammar has a rule for each level of operators, which takes one part alone or two
-- with an operator between them. So what is said of expressions is said of a few forms, and the levels are written once.
use Rattle.std.specs.Prelude.{ℕ}
use Rattle.mpl_ast.specs.declared.expression.Conjunction.{Conjunction, fold-Conjunction}
use Rattle.mpl_ast.specs.declared.expression.Equality.{Equality, fold-Equality}
use Rattle.mpl_ast.specs.declared.expression.EqualityOperator.{EqualityOperator}
use Rattle.mpl_ast.specs.declared.expression.Expression.{Expression, fold-Expression}
use Rattle.mpl_ast.specs.declared.expression.Place.{Place, fold-Place}
use Rattle.mpl_ast.specs.declared.expression.Primary.{Primary, fold-Primary}
use Rattle.mpl_ast.specs.declared.expression.Relation.{Relation, fold-Relation}
use Rattle.mpl_ast.specs.declared.expression.RelationOperator.{RelationOperator}
use Rattle.mpl_ast.specs.declared.expression.Sum.{Sum, fold-Sum}
use Rattle.mpl_ast.specs.declared.expression.SumOperator.{SumOperator}
use Rattle.mpl_ast.specs.declared.expression.Term.{Term, fold-Term}
use Rattle.mpl_ast.specs.declared.expression.TermOperator.{TermOperator}
use Rattle.mpl_ast.specs.declared.expression.Unary.{Unary, fold-Unary}
use Rattle.mpl_ast.specs.declared.expression.UnaryOperator.{UnaryOperator}
use Rattle.mpl_ast.specs.declared.expression.Conjunction.TheOpen.{Conjunction-F, Equality-F, Expression-F, Place-F, Primary-F, Relation-F, Sum-F, Term-F, Unary-F}
use Rattle.mpl_ast.specs.declared.place.At.{At}

pub data BinaryOperator : Type 0 where
  Or : BinaryOperator
  And : BinaryOperator
  Equate : EqualityOperator → BinaryOperator
  Compare : RelationOperator → BinaryOperator
  Add : SumOperator → BinaryOperator
  Multiply : TermOperator → BinaryOperator

-- What is made of each form of expression from what is made of its parts. A node of one part alone stands around a node of
-- the next level; an operator stands on a line.
pub record Forms (A : Type 0) : Type 0 where
  pub alone : At → A → A
  pub binary : At → ℕ → BinaryOperator → A → A → A
  pub unary : At → ℕ → UnaryOperator → A → A
  pub primary : Primary-F A A A A A A A A A → A
  pub place : Place-F A A A A A A A A A → A

module _ {A : Type 0} (forms : Forms A) where
  -- ---- one level after another

  abbrev pub expression_step : Expression-F A A A A A A A A A → A
  expression_step (Expression-F.OneConjunction at conjunction) = forms.alone at conjunction
  expression_step (Expression-F.Or at line left right) = forms.binary at line Or left right

  abbrev pub conjunction_step : Conjunction-F A A A A A A A A A → A
  conjunction_step (Conjunction-F.OneEquality at equality) = forms.alone at equality
  conjunction_step (Conjunction-F.And at line left right) = forms.binary at line And left right

  abbrev pub equality_step : Equality-F A A A A A A A A A → A
  equality_step (Equality-F.OneRelation at relation) = forms.alone at relation
  equality_step (Equality-F.Equate at line left operator right) = forms.binary at line (Equate operator) left right

  abbrev pub relation_step : Relation-F A A A A A A A A A → A
  relation_step (Relation-F.OneSum at sum) = forms.alone at sum
  relation_step (Relation-F.Compare at line left operator right) = forms.binary at line (Compare operator) left right

  abbrev pub sum_step : Sum-F A A A A A A A A A → A
  sum_step (Sum-F.OneTerm at term) = forms.alone at term
  sum_step (Sum-F.Add at line left operator right) = forms.binary at line (Add operator) left right

  abbrev pub term_step : Term-F A A A A A A A A A → A
  term_step (Term-F.OneUnary at unary) = forms.alone at unary
  term_step (Term-F.Multiply at line left operator right) = forms.binary at line (Multiply operator) left right

  abbrev pub unary_step : Unary-F A A A A A A A A A → A
  unary_step (Unary-F.OnePrimary at primary) = forms.alone at primary
  unary_step (Unary-F.Apply at line operator operand) = forms.unary at line operator operand

  -- ---- what is made of a whole, at each level

  abbrev pub expression_by : Expression → A
  expression_by = fold-Expression A A A A A A A A A conjunction_step equality_step expression_step forms.place forms.primary relation_step sum_step term_step unary_step

  abbrev pub conjunction_by : Conjunction → A
  conjunction_by = fold-Conjunction A A A A A A A A A conjunction_step equality_step expression_step forms.place forms.primary relation_step sum_step term_step unary_step

  abbrev pub equality_by : Equality → A
  equality_by = fold-Equality A A A A A A A A A conjunction_step equality_step expression_step forms.place forms.primary relation_step sum_step term_step unary_step

  abbrev pub relation_by : Relation → A
  relation_by = fold-Relation A A A A A A A A A conjunction_step equality_step expression_step forms.place forms.primary relation_step sum_step term_step unary_step

  abbrev pub sum_by : Sum → A
  sum_by = fold-Sum A A A A A A A A A conjunction_step equality_step expression_step forms.place forms.primary relation_step sum_step term_step unary_step

  abbrev pub term_by : Term → A
  term_by = fold-Term A A A A A A A A A conjunction_step equality_step expression_step forms.place forms.primary relation_step sum_step term_step unary_step

  abbrev pub unary_by : Unary → A
  unary_by = fold-Unary A A A A A A A A A conjunction_step equality_step expression_step forms.place forms.primary relation_step sum_step term_step unary_step

  abbrev pub primary_by : Primary → A
  primary_by = fold-Primary A A A A A A A A A conjunction_step equality_step expression_step forms.place forms.primary relation_step sum_step term_step unary_step

  abbrev pub place_by : Place → A
  place_by = fold-Place A A A A A A A A A conjunction_step equality_step expression_step forms.place forms.primary relation_step sum_step term_step unary_step
