-- Induction over expressions. The nodes of each level are gone through once; what is shown of all levels alike is then
-- shown of the forms alone.
use Rattle.std.proofs.Common.{◌≡◌, ℕ, List, [], ◌∷◌, map, ℤ, sym, subst}
use Rattle.std.specs.List.{AllByRecursion}
use Rattle.mpl_ast.specs.declared.expression.Conjunction.{Conjunction, fold-roll-Conjunction, map-Conjunction, roll-Conjunction}
use Rattle.mpl_ast.specs.declared.expression.Equality.{Equality, fold-roll-Equality, map-Equality, roll-Equality}
use Rattle.mpl_ast.specs.declared.expression.Expression.{Expression, fold-roll-Expression, map-Expression, roll-Expression, ind-Expression}
use Rattle.mpl_ast.specs.declared.expression.Place.{Place, fold-roll-Place, map-Place, roll-Place, out-Place, fold_out-Place, ind-Place}
use Rattle.mpl_ast.specs.declared.expression.Primary.{Primary, fold-roll-Primary, map-Primary, roll-Primary}
use Rattle.mpl_ast.specs.declared.expression.Relation.{Relation, fold-roll-Relation, map-Relation, roll-Relation}
use Rattle.mpl_ast.specs.declared.expression.Sum.{Sum, fold-roll-Sum, map-Sum, roll-Sum}
use Rattle.mpl_ast.specs.declared.expression.Term.{Term, fold-roll-Term, map-Term, roll-Term}
use Rattle.mpl_ast.specs.declared.expression.Unary.{Unary, fold-roll-Unary, map-Unary, roll-Unary}
use Rattle.mpl_ast.specs.declared.expression.EqualityOperator.{EqualityOperator}
use Rattle.mpl_ast.specs.declared.expression.RelationOperator.{RelationOperator}
use Rattle.mpl_ast.specs.declared.expression.SumOperator.{SumOperator}
use Rattle.mpl_ast.specs.declared.expression.Target.{Target}
use Rattle.mpl_ast.specs.declared.expression.TermOperator.{TermOperator}
use Rattle.mpl_ast.specs.declared.expression.UnaryOperator.{UnaryOperator}
use Rattle.mpl_ast.specs.declared.expression.Conjunction.TheOpen.{Conjunction-F, Equality-F, Expression-F, Place-F, Primary-F, Relation-F, Sum-F, Term-F, Unary-F}
use Rattle.mpl_ast.specs.declared.place.At.{At}
use Rattle.mpl_ast.specs.declared.place.Name.{Name}
use Rattle.mpl_mean.specs.Levels.{BinaryOperator, Or, And, Equate, Compare, Add, Multiply, Forms, expression_step, conjunction_step, equality_step, relation_step, sum_step, term_step, unary_step, expression_by, conjunction_by, equality_by, relation_by, sum_by, term_by, unary_by, primary_by, place_by}

-- ---- what is made of a node, from what is made of its parts

module _ {A : Type 0} (forms : Forms A) where
  abbrev pub conjunction_of_parts : Conjunction-F Conjunction Equality Expression Place Primary Relation Sum Term Unary → A
  conjunction_of_parts layer = conjunction_step forms (map-Conjunction Conjunction Equality Expression Place Primary Relation Sum Term Unary A A A A A A A A A (conjunction_by forms) (equality_by forms) (expression_by forms) (place_by forms) (primary_by forms) (relation_by forms) (sum_by forms) (term_by forms) (unary_by forms) layer)

  abbrev pub equality_of_parts : Equality-F Conjunction Equality Expression Place Primary Relation Sum Term Unary → A
  equality_of_parts layer = equality_step forms (map-Equality Conjunction Equality Expression Place Primary Relation Sum Term Unary A A A A A A A A A (conjunction_by forms) (equality_by forms) (expression_by forms) (place_by forms) (primary_by forms) (relation_by forms) (sum_by forms) (term_by forms) (unary_by forms) layer)

  abbrev pub expression_of_parts : Expression-F Conjunction Equality Expression Place Primary Relation Sum Term Unary → A
  expression_of_parts layer = expression_step forms (map-Expression Conjunction Equality Expression Place Primary Relation Sum Term Unary A A A A A A A A A (conjunction_by forms) (equality_by forms) (expression_by forms) (place_by forms) (primary_by forms) (relation_by forms) (sum_by forms) (term_by forms) (unary_by forms) layer)

  abbrev pub place_of_parts : Place-F Conjunction Equality Expression Place Primary Relation Sum Term Unary → A
  place_of_parts layer = forms.place (map-Place Conjunction Equality Expression Place Primary Relation Sum Term Unary A A A A A A A A A (conjunction_by forms) (equality_by forms) (expression_by forms) (place_by forms) (primary_by forms) (relation_by forms) (sum_by forms) (term_by forms) (unary_by forms) layer)

  abbrev pub primary_of_parts : Primary-F Conjunction Equality Expression Place Primary Relation Sum Term Unary → A
  primary_of_parts layer = forms.primary (map-Primary Conjunction Equality Expression Place Primary Relation Sum Term Unary A A A A A A A A A (conjunction_by forms) (equality_by forms) (expression_by forms) (place_by forms) (primary_by forms) (relation_by forms) (sum_by forms) (term_by forms) (unary_by forms) layer)

  abbrev pub relation_of_parts : Relation-F Conjunction Equality Expression Place Primary Relation Sum Term Unary → A
  relation_of_parts layer = relation_step forms (map-Relation Conjunction Equality Expression Place Primary Relation Sum Term Unary A A A A A A A A A (conjunction_by forms) (equality_by forms) (expression_by forms) (place_by forms) (primary_by forms) (relation_by forms) (sum_by forms) (term_by forms) (unary_by forms) layer)

  abbrev pub sum_of_parts : Sum-F Conjunction Equality Expression Place Primary Relation Sum Term Unary → A
  sum_of_parts layer = sum_step forms (map-Sum Conjunction Equality Expression Place Primary Relation Sum Term Unary A A A A A A A A A (conjunction_by forms) (equality_by forms) (expression_by forms) (place_by forms) (primary_by forms) (relation_by forms) (sum_by forms) (term_by forms) (unary_by forms) layer)

  abbrev pub term_of_parts : Term-F Conjunction Equality Expression Place Primary Relation Sum Term Unary → A
  term_of_parts layer = term_step forms (map-Term Conjunction Equality Expression Place Primary Relation Sum Term Unary A A A A A A A A A (conjunction_by forms) (equality_by forms) (expression_by forms) (place_by forms) (primary_by forms) (relation_by forms) (sum_by forms) (term_by forms) (unary_by forms) layer)

  abbrev pub unary_of_parts : Unary-F Conjunction Equality Expression Place Primary Relation Sum Term Unary → A
  unary_of_parts layer = unary_step forms (map-Unary Conjunction Equality Expression Place Primary Relation Sum Term Unary A A A A A A A A A (conjunction_by forms) (equality_by forms) (expression_by forms) (place_by forms) (primary_by forms) (relation_by forms) (sum_by forms) (term_by forms) (unary_by forms) layer)

  pub conjunction_rolls : (layer : Conjunction-F Conjunction Equality Expression Place Primary Relation Sum Term Unary) → conjunction_by forms (roll-Conjunction layer) ≡ conjunction_of_parts layer
  conjunction_rolls layer = fold-roll-Conjunction A A A A A A A A A (conjunction_step forms) (equality_step forms) (expression_step forms) forms.place forms.primary (relation_step forms) (sum_step forms) (term_step forms) (unary_step forms) layer

  pub equality_rolls : (layer : Equality-F Conjunction Equality Expression Place Primary Relation Sum Term Unary) → equality_by forms (roll-Equality layer) ≡ equality_of_parts layer
  equality_rolls layer = fold-roll-Equality A A A A A A A A A (conjunction_step forms) (equality_step forms) (expression_step forms) forms.place forms.primary (relation_step forms) (sum_step forms) (term_step forms) (unary_step forms) layer

  pub expression_rolls : (layer : Expression-F Conjunction Equality Expression Place Primary Relation Sum Term Unary) → expression_by forms (roll-Expression layer) ≡ expression_of_parts layer
  expression_rolls layer = fold-roll-Expression A A A A A A A A A (conjunction_step forms) (equality_step forms) (expression_step forms) forms.place forms.primary (relation_step forms) (sum_step forms) (term_step forms) (unary_step forms) layer

  pub place_rolls : (layer : Place-F Conjunction Equality Expression Place Primary Relation Sum Term Unary) → place_by forms (roll-Place layer) ≡ place_of_parts layer
  place_rolls layer = fold-roll-Place A A A A A A A A A (conjunction_step forms) (equality_step forms) (expression_step forms) forms.place forms.primary (relation_step forms) (sum_step forms) (term_step forms) (unary_step forms) layer

  pub primary_rolls : (layer : Primary-F Conjunction Equality Expression Place Primary Relation Sum Term Unary) → primary_by forms (roll-Primary layer) ≡ primary_of_parts layer
  primary_rolls layer = fold-roll-Primary A A A A A A A A A (conjunction_step forms) (equality_step forms) (expression_step forms) forms.place forms.primary (relation_step forms) (sum_step forms) (term_step forms) (unary_step forms) layer

  pub relation_rolls : (layer : Relation-F Conjunction Equality Expression Place Primary Relation Sum Term Unary) → relation_by forms (roll-Relation layer) ≡ relation_of_parts layer
  relation_rolls layer = fold-roll-Relation A A A A A A A A A (conjunction_step forms) (equality_step forms) (expression_step forms) forms.place forms.primary (relation_step forms) (sum_step forms) (term_step forms) (unary_step forms) layer

  pub sum_rolls : (layer : Sum-F Conjunction Equality Expression Place Primary Relation Sum Term Unary) → sum_by forms (roll-Sum layer) ≡ sum_of_parts layer
  sum_rolls layer = fold-roll-Sum A A A A A A A A A (conjunction_step forms) (equality_step forms) (expression_step forms) forms.place forms.primary (relation_step forms) (sum_step forms) (term_step forms) (unary_step forms) layer

  pub term_rolls : (layer : Term-F Conjunction Equality Expression Place Primary Relation Sum Term Unary) → term_by forms (roll-Term layer) ≡ term_of_parts layer
  term_rolls layer = fold-roll-Term A A A A A A A A A (conjunction_step forms) (equality_step forms) (expression_step forms) forms.place forms.primary (relation_step forms) (sum_step forms) (term_step forms) (unary_step forms) layer

  pub unary_rolls : (layer : Unary-F Conjunction Equality Expression Place Primary Relation Sum Term Unary) → unary_by forms (roll-Unary layer) ≡ unary_of_parts layer
  unary_rolls layer = fold-roll-Unary A A A A A A A A A (conjunction_step forms) (equality_step forms) (expression_step forms) forms.place forms.primary (relation_step forms) (sum_step forms) (term_step forms) (unary_step forms) layer

  pub place_opens : (t : Place) → place_by forms t ≡ place_of_parts (out-Place t)
  place_opens t = fold_out-Place A A A A A A A A A (conjunction_step forms) (equality_step forms) (expression_step forms) forms.place forms.primary (relation_step forms) (sum_step forms) (term_step forms) (unary_step forms) t

-- ---- level by level

-- what is shown of the trees of each level
pub record Properties : Type 1 where
  pub conjunction : Conjunction → Type 0
  pub equality : Equality → Type 0
  pub expression : Expression → Type 0
  pub place : Place → Type 0
  pub primary : Primary → Type 0
  pub relation : Relation → Type 0
  pub sum : Sum → Type 0
  pub term : Term → Type 0
  pub unary : Unary → Type 0

-- it holds of each node, where it holds of its parts
pub record EachNode (P : Properties) : Type 0 where
  pub one_conjunction : (at : At) (t : Conjunction) → P.conjunction t → P.expression (roll-Expression (Expression-F.OneConjunction at t))
  pub or : (at : At) (line : ℕ) (left : Expression) (right : Conjunction) → P.expression left → P.conjunction right → P.expression (roll-Expression (Expression-F.Or at line left right))
  pub one_equality : (at : At) (t : Equality) → P.equality t → P.conjunction (roll-Conjunction (Conjunction-F.OneEquality at t))
  pub and : (at : At) (line : ℕ) (left : Conjunction) (right : Equality) → P.conjunction left → P.equality right → P.conjunction (roll-Conjunction (Conjunction-F.And at line left right))
  pub one_relation : (at : At) (t : Relation) → P.relation t → P.equality (roll-Equality (Equality-F.OneRelation at t))
  pub equate : (at : At) (line : ℕ) (left : Equality) (operator : EqualityOperator) (right : Relation) → P.equality left → P.relation right → P.equality (roll-Equality (Equality-F.Equate at line left operator right))
  pub one_sum : (at : At) (t : Sum) → P.sum t → P.relation (roll-Relation (Relation-F.OneSum at t))
  pub compare : (at : At) (line : ℕ) (left : Relation) (operator : RelationOperator) (right : Sum) → P.relation left → P.sum right → P.relation (roll-Relation (Relation-F.Compare at line left operator right))
  pub one_term : (at : At) (t : Term) → P.term t → P.sum (roll-Sum (Sum-F.OneTerm at t))
  pub add : (at : At) (line : ℕ) (left : Sum) (operator : SumOperator) (right : Term) → P.sum left → P.term right → P.sum (roll-Sum (Sum-F.Add at line left operator right))
  pub one_unary : (at : At) (t : Unary) → P.unary t → P.term (roll-Term (Term-F.OneUnary at t))
  pub multiply : (at : At) (line : ℕ) (left : Term) (operator : TermOperator) (right : Unary) → P.term left → P.unary right → P.term (roll-Term (Term-F.Multiply at line left operator right))
  pub one_primary : (at : At) (t : Primary) → P.primary t → P.unary (roll-Unary (Unary-F.OnePrimary at t))
  pub apply : (at : At) (line : ℕ) (operator : UnaryOperator) (operand : Unary) → P.unary operand → P.unary (roll-Unary (Unary-F.Apply at line operator operand))
  pub number : (at : At) (value : ℤ) → P.primary (roll-Primary (Primary-F.Number at value))
  pub true : (at : At) → P.primary (roll-Primary (Primary-F.True at))
  pub false : (at : At) → P.primary (roll-Primary (Primary-F.False at))
  pub own : (at : At) → P.primary (roll-Primary (Primary-F.Own at))
  pub read : (at : At) (place : Place) → P.place place → P.primary (roll-Primary (Primary-F.Read at place))
  pub input : (at : At) → P.primary (roll-Primary (Primary-F.Input at))
  pub call : (at : At) (function : Name) (arguments : List Expression) → AllByRecursion P.expression arguments → P.primary (roll-Primary (Primary-F.CallPlain at function arguments))
  pub parenthesized : (at : At) (inner : Expression) → P.expression inner → P.primary (roll-Primary (Primary-F.Parenthesized at inner))
  pub whole : (at : At) (target : Target) → P.place (roll-Place (Place-F.Whole at target))
  pub element : (at : At) (line : ℕ) (target : Target) (index : Expression) → P.expression index → P.place (roll-Place (Place-F.Element at line target index))

module _ (P : Properties) (c : EachNode P) where
  abbrev WithConjunction : Type 0
  WithConjunction = (t : Conjunction) × P.conjunction t

  abbrev WithEquality : Type 0
  WithEquality = (t : Equality) × P.equality t

  abbrev WithExpression : Type 0
  WithExpression = (t : Expression) × P.expression t

  abbrev WithPlace : Type 0
  WithPlace = (t : Place) × P.place t

  abbrev WithPrimary : Type 0
  WithPrimary = (t : Primary) × P.primary t

  abbrev WithRelation : Type 0
  WithRelation = (t : Relation) × P.relation t

  abbrev WithSum : Type 0
  WithSum = (t : Sum) × P.sum t

  abbrev WithTerm : Type 0
  WithTerm = (t : Term) × P.term t

  abbrev WithUnary : Type 0
  WithUnary = (t : Unary) × P.unary t

  each_argument : (es : List WithExpression) → AllByRecursion P.expression (map (λ e. e.0) es)
  each_argument [] = tt
  each_argument (e ∷ es) = (e.1, each_argument es)

  conjunction_node : (y : Conjunction-F WithConjunction WithEquality WithExpression WithPlace WithPrimary WithRelation WithSum WithTerm WithUnary) → P.conjunction (roll-Conjunction (map-Conjunction WithConjunction WithEquality WithExpression WithPlace WithPrimary WithRelation WithSum WithTerm WithUnary Conjunction Equality Expression Place Primary Relation Sum Term Unary (λ t. t.0) (λ t. t.0) (λ t. t.0) (λ t. t.0) (λ t. t.0) (λ t. t.0) (λ t. t.0) (λ t. t.0) (λ t. t.0) y))
  conjunction_node (Conjunction-F.OneEquality at t) = c.one_equality at t.0 t.1
  conjunction_node (Conjunction-F.And at line l r) = c.and at line l.0 r.0 l.1 r.1

  equality_node : (y : Equality-F WithConjunction WithEquality WithExpression WithPlace WithPrimary WithRelation WithSum WithTerm WithUnary) → P.equality (roll-Equality (map-Equality WithConjunction WithEquality WithExpression WithPlace WithPrimary WithRelation WithSum WithTerm WithUnary Conjunction Equality Expression Place Primary Relation Sum Term Unary (λ t. t.0) (λ t. t.0) (λ t. t.0) (λ t. t.0) (λ t. t.0) (λ t. t.0) (λ t. t.0) (λ t. t.0) (λ t. t.0) y))
  equality_node (Equality-F.OneRelation at t) = c.one_relation at t.0 t.1
  equality_node (Equality-F.Equate at line l o r) = c.equate at line l.0 o r.0 l.1 r.1

  expression_node : (y : Expression-F WithConjunction WithEquality WithExpression WithPlace WithPrimary WithRelation WithSum WithTerm WithUnary) → P.expression (roll-Expression (map-Expression WithConjunction WithEquality WithExpression WithPlace WithPrimary WithRelation WithSum WithTerm WithUnary Conjunction Equality Expression Place Primary Relation Sum Term Unary (λ t. t.0) (λ t. t.0) (λ t. t.0) (λ t. t.0) (λ t. t.0) (λ t. t.0) (λ t. t.0) (λ t. t.0) (λ t. t.0) y))
  expression_node (Expression-F.OneConjunction at t) = c.one_conjunction at t.0 t.1
  expression_node (Expression-F.Or at line l r) = c.or at line l.0 r.0 l.1 r.1

  place_node : (y : Place-F WithConjunction WithEquality WithExpression WithPlace WithPrimary WithRelation WithSum WithTerm WithUnary) → P.place (roll-Place (map-Place WithConjunction WithEquality WithExpression WithPlace WithPrimary WithRelation WithSum WithTerm WithUnary Conjunction Equality Expression Place Primary Relation Sum Term Unary (λ t. t.0) (λ t. t.0) (λ t. t.0) (λ t. t.0) (λ t. t.0) (λ t. t.0) (λ t. t.0) (λ t. t.0) (λ t. t.0) y))
  place_node (Place-F.Whole at t) = c.whole at t
  place_node (Place-F.Element at line t e) = c.element at line t e.0 e.1

  primary_node : (y : Primary-F WithConjunction WithEquality WithExpression WithPlace WithPrimary WithRelation WithSum WithTerm WithUnary) → P.primary (roll-Primary (map-Primary WithConjunction WithEquality WithExpression WithPlace WithPrimary WithRelation WithSum WithTerm WithUnary Conjunction Equality Expression Place Primary Relation Sum Term Unary (λ t. t.0) (λ t. t.0) (λ t. t.0) (λ t. t.0) (λ t. t.0) (λ t. t.0) (λ t. t.0) (λ t. t.0) (λ t. t.0) y))
  primary_node (Primary-F.Number at value) = c.number at value
  primary_node (Primary-F.True at) = c.true at
  primary_node (Primary-F.False at) = c.false at
  primary_node (Primary-F.Own at) = c.own at
  primary_node (Primary-F.Read at t) = c.read at t.0 t.1
  primary_node (Primary-F.Input at) = c.input at
  primary_node (Primary-F.CallPlain at f es) = c.call at f (map (λ e. e.0) es) (each_argument es)
  primary_node (Primary-F.Parenthesized at t) = c.parenthesized at t.0 t.1

  relation_node : (y : Relation-F WithConjunction WithEquality WithExpression WithPlace WithPrimary WithRelation WithSum WithTerm WithUnary) → P.relation (roll-Relation (map-Relation WithConjunction WithEquality WithExpression WithPlace WithPrimary WithRelation WithSum WithTerm WithUnary Conjunction Equality Expression Place Primary Relation Sum Term Unary (λ t. t.0) (λ t. t.0) (λ t. t.0) (λ t. t.0) (λ t. t.0) (λ t. t.0) (λ t. t.0) (λ t. t.0) (λ t. t.0) y))
  relation_node (Relation-F.OneSum at t) = c.one_sum at t.0 t.1
  relation_node (Relation-F.Compare at line l o r) = c.compare at line l.0 o r.0 l.1 r.1

  sum_node : (y : Sum-F WithConjunction WithEquality WithExpression WithPlace WithPrimary WithRelation WithSum WithTerm WithUnary) → P.sum (roll-Sum (map-Sum WithConjunction WithEquality WithExpression WithPlace WithPrimary WithRelation WithSum WithTerm WithUnary Conjunction Equality Expression Place Primary Relation Sum Term Unary (λ t. t.0) (λ t. t.0) (λ t. t.0) (λ t. t.0) (λ t. t.0) (λ t. t.0) (λ t. t.0) (λ t. t.0) (λ t. t.0) y))
  sum_node (Sum-F.OneTerm at t) = c.one_term at t.0 t.1
  sum_node (Sum-F.Add at line l o r) = c.add at line l.0 o r.0 l.1 r.1

  term_node : (y : Term-F WithConjunction WithEquality WithExpression WithPlace WithPrimary WithRelation WithSum WithTerm WithUnary) → P.term (roll-Term (map-Term WithConjunction WithEquality WithExpression WithPlace WithPrimary WithRelation WithSum WithTerm WithUnary Conjunction Equality Expression Place Primary Relation Sum Term Unary (λ t. t.0) (λ t. t.0) (λ t. t.0) (λ t. t.0) (λ t. t.0) (λ t. t.0) (λ t. t.0) (λ t. t.0) (λ t. t.0) y))
  term_node (Term-F.OneUnary at t) = c.one_unary at t.0 t.1
  term_node (Term-F.Multiply at line l o r) = c.multiply at line l.0 o r.0 l.1 r.1

  unary_node : (y : Unary-F WithConjunction WithEquality WithExpression WithPlace WithPrimary WithRelation WithSum WithTerm WithUnary) → P.unary (roll-Unary (map-Unary WithConjunction WithEquality WithExpression WithPlace WithPrimary WithRelation WithSum WithTerm WithUnary Conjunction Equality Expression Place Primary Relation Sum Term Unary (λ t. t.0) (λ t. t.0) (λ t. t.0) (λ t. t.0) (λ t. t.0) (λ t. t.0) (λ t. t.0) (λ t. t.0) (λ t. t.0) y))
  unary_node (Unary-F.OnePrimary at t) = c.one_primary at t.0 t.1
  unary_node (Unary-F.Apply at line o t) = c.apply at line o t.0 t.1

  pub by_nodes : (t : Expression) → P.expression t
  by_nodes = ind-Expression P.conjunction P.equality P.expression P.place P.primary P.relation P.sum P.term P.unary
      (λ y z is. subst (λ layer. P.conjunction (roll-Conjunction layer)) is (conjunction_node z))
      (λ y z is. subst (λ layer. P.equality (roll-Equality layer)) is (equality_node z))
      (λ y z is. subst (λ layer. P.expression (roll-Expression layer)) is (expression_node z))
      (λ y z is. subst (λ layer. P.place (roll-Place layer)) is (place_node z))
      (λ y z is. subst (λ layer. P.primary (roll-Primary layer)) is (primary_node z))
      (λ y z is. subst (λ layer. P.relation (roll-Relation layer)) is (relation_node z))
      (λ y z is. subst (λ layer. P.sum (roll-Sum layer)) is (sum_node z))
      (λ y z is. subst (λ layer. P.term (roll-Term layer)) is (term_node z))
      (λ y z is. subst (λ layer. P.unary (roll-Unary layer)) is (unary_node z))

  pub place_by_nodes : (t : Place) → P.place t
  place_by_nodes = ind-Place P.conjunction P.equality P.expression P.place P.primary P.relation P.sum P.term P.unary
      (λ y z is. subst (λ layer. P.conjunction (roll-Conjunction layer)) is (conjunction_node z))
      (λ y z is. subst (λ layer. P.equality (roll-Equality layer)) is (equality_node z))
      (λ y z is. subst (λ layer. P.expression (roll-Expression layer)) is (expression_node z))
      (λ y z is. subst (λ layer. P.place (roll-Place layer)) is (place_node z))
      (λ y z is. subst (λ layer. P.primary (roll-Primary layer)) is (primary_node z))
      (λ y z is. subst (λ layer. P.relation (roll-Relation layer)) is (relation_node z))
      (λ y z is. subst (λ layer. P.sum (roll-Sum layer)) is (sum_node z))
      (λ y z is. subst (λ layer. P.term (roll-Term layer)) is (term_node z))
      (λ y z is. subst (λ layer. P.unary (roll-Unary layer)) is (unary_node z))

-- ---- form by form

-- what a tree becomes, whatever is made of the forms
abbrev pub Becomes : Type 1
Becomes = (A : Type 0) → Forms A → A

abbrev pub expression_becomes : Expression → Becomes
expression_becomes e A forms = expression_by forms e

abbrev pub place_becomes : Place → Becomes
place_becomes t A forms = place_by forms t

-- P holds of each form of expression and Q of each form of place, where they hold of its parts
pub record EachForm (P Q : Becomes → Type 0) : Type 1 where
  pub alone : (at : At) (t : Becomes) → P t → P (λ A forms. forms.alone at (t A forms))
  pub binary : (at : At) (line : ℕ) (operator : BinaryOperator) (left right : Becomes) → P left → P right → P (λ A forms. forms.binary at line operator (left A forms) (right A forms))
  pub unary : (at : At) (line : ℕ) (operator : UnaryOperator) (operand : Becomes) → P operand → P (λ A forms. forms.unary at line operator (operand A forms))
  pub number : (at : At) (value : ℤ) → P (λ A forms. forms.primary (Primary-F.Number at value))
  pub true : (at : At) → P (λ A forms. forms.primary (Primary-F.True at))
  pub false : (at : At) → P (λ A forms. forms.primary (Primary-F.False at))
  pub own : (at : At) → P (λ A forms. forms.primary (Primary-F.Own at))
  pub read : (at : At) (place : Becomes) → Q place → P (λ A forms. forms.primary (Primary-F.Read at (place A forms)))
  pub input : (at : At) → P (λ A forms. forms.primary (Primary-F.Input at))
  pub call : (at : At) (function : Name) (arguments : List Expression) → AllByRecursion (λ e. P (expression_becomes e)) arguments → P (λ A forms. forms.primary (Primary-F.CallPlain at function (map (expression_by forms) arguments)))
  pub parenthesized : (at : At) (inner : Becomes) → P inner → P (λ A forms. forms.primary (Primary-F.Parenthesized at (inner A forms)))
  pub whole : (at : At) (target : Target) → Q (λ A forms. forms.place (Place-F.Whole at target))
  pub element : (at : At) (line : ℕ) (target : Target) (index : Becomes) → P index → Q (λ A forms. forms.place (Place-F.Element at line target (index A forms)))

module _ (P Q : Becomes → Type 0) (c : EachForm P Q) where
  rolled : (R : Becomes → Type 0) {t u : Becomes} → ((A : Type 0) (forms : Forms A) → t A forms ≡ u A forms) → R u → R t
  rolled R e = subst R (λ i. λ A forms. sym (e A forms) i)

  abbrev properties : Properties
  properties = record {
    conjunction = λ t. P (λ A forms. conjunction_by forms t);
    equality = λ t. P (λ A forms. equality_by forms t);
    expression = λ t. P (λ A forms. expression_by forms t);
    place = λ t. Q (λ A forms. place_by forms t);
    primary = λ t. P (λ A forms. primary_by forms t);
    relation = λ t. P (λ A forms. relation_by forms t);
    sum = λ t. P (λ A forms. sum_by forms t);
    term = λ t. P (λ A forms. term_by forms t);
    unary = λ t. P (λ A forms. unary_by forms t);
  }

  nodes : EachNode properties
  nodes = record {
    one_conjunction = λ at t p. rolled P (λ A forms. expression_rolls forms (Expression-F.OneConjunction at t)) (c.alone at (λ A forms. conjunction_by forms t) p);
    or = λ at line l r p q. rolled P (λ A forms. expression_rolls forms (Expression-F.Or at line l r)) (c.binary at line Or (λ A forms. expression_by forms l) (λ A forms. conjunction_by forms r) p q);
    one_equality = λ at t p. rolled P (λ A forms. conjunction_rolls forms (Conjunction-F.OneEquality at t)) (c.alone at (λ A forms. equality_by forms t) p);
    and = λ at line l r p q. rolled P (λ A forms. conjunction_rolls forms (Conjunction-F.And at line l r)) (c.binary at line And (λ A forms. conjunction_by forms l) (λ A forms. equality_by forms r) p q);
    one_relation = λ at t p. rolled P (λ A forms. equality_rolls forms (Equality-F.OneRelation at t)) (c.alone at (λ A forms. relation_by forms t) p);
    equate = λ at line l o r p q. rolled P (λ A forms. equality_rolls forms (Equality-F.Equate at line l o r)) (c.binary at line (Equate o) (λ A forms. equality_by forms l) (λ A forms. relation_by forms r) p q);
    one_sum = λ at t p. rolled P (λ A forms. relation_rolls forms (Relation-F.OneSum at t)) (c.alone at (λ A forms. sum_by forms t) p);
    compare = λ at line l o r p q. rolled P (λ A forms. relation_rolls forms (Relation-F.Compare at line l o r)) (c.binary at line (Compare o) (λ A forms. relation_by forms l) (λ A forms. sum_by forms r) p q);
    one_term = λ at t p. rolled P (λ A forms. sum_rolls forms (Sum-F.OneTerm at t)) (c.alone at (λ A forms. term_by forms t) p);
    add = λ at line l o r p q. rolled P (λ A forms. sum_rolls forms (Sum-F.Add at line l o r)) (c.binary at line (Add o) (λ A forms. sum_by forms l) (λ A forms. term_by forms r) p q);
    one_unary = λ at t p. rolled P (λ A forms. term_rolls forms (Term-F.OneUnary at t)) (c.alone at (λ A forms. unary_by forms t) p);
    multiply = λ at line l o r p q. rolled P (λ A forms. term_rolls forms (Term-F.Multiply at line l o r)) (c.binary at line (Multiply o) (λ A forms. term_by forms l) (λ A forms. unary_by forms r) p q);
    one_primary = λ at t p. rolled P (λ A forms. unary_rolls forms (Unary-F.OnePrimary at t)) (c.alone at (λ A forms. primary_by forms t) p);
    apply = λ at line o t p. rolled P (λ A forms. unary_rolls forms (Unary-F.Apply at line o t)) (c.unary at line o (λ A forms. unary_by forms t) p);
    number = λ at value. rolled P (λ A forms. primary_rolls forms (Primary-F.Number at value)) (c.number at value);
    true = λ at. rolled P (λ A forms. primary_rolls forms (Primary-F.True at)) (c.true at);
    false = λ at. rolled P (λ A forms. primary_rolls forms (Primary-F.False at)) (c.false at);
    own = λ at. rolled P (λ A forms. primary_rolls forms (Primary-F.Own at)) (c.own at);
    read = λ at t p. rolled P (λ A forms. primary_rolls forms (Primary-F.Read at t)) (c.read at (λ A forms. place_by forms t) p);
    input = λ at. rolled P (λ A forms. primary_rolls forms (Primary-F.Input at)) (c.input at);
    call = λ at f es ps. rolled P (λ A forms. primary_rolls forms (Primary-F.CallPlain at f es)) (c.call at f es ps);
    parenthesized = λ at e p. rolled P (λ A forms. primary_rolls forms (Primary-F.Parenthesized at e)) (c.parenthesized at (λ A forms. expression_by forms e) p);
    whole = λ at t. rolled Q (λ A forms. place_rolls forms (Place-F.Whole at t)) (c.whole at t);
    element = λ at line t e p. rolled Q (λ A forms. place_rolls forms (Place-F.Element at line t e)) (c.element at line t (λ A forms. expression_by forms e) p);
  }

  pub by_forms : (e : Expression) → P (expression_becomes e)
  by_forms = by_nodes properties nodes

  pub place_by_forms : (t : Place) → Q (place_becomes t)
  place_by_forms = place_by_nodes properties nodes
