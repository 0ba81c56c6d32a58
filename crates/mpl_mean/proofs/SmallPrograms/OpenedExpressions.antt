-- Folds over expressions, so many layers deep, in a form that computes.
use Rattle.std.proofs.Common.{◌≡◌, ℕ, zero, suc, refl, ap, ◌∙◌}
use Rattle.mpl_ast.specs.declared.expression.Conjunction.{Conjunction, fold_out-Conjunction, map-Conjunction, out-Conjunction}
use Rattle.mpl_ast.specs.declared.expression.Equality.{Equality, fold_out-Equality, map-Equality, out-Equality}
use Rattle.mpl_ast.specs.declared.expression.Expression.{Expression, fold_out-Expression, map-Expression, out-Expression}
use Rattle.mpl_ast.specs.declared.expression.Place.{Place, fold_out-Place, map-Place, out-Place}
use Rattle.mpl_ast.specs.declared.expression.Primary.{Primary, fold_out-Primary, map-Primary, out-Primary}
use Rattle.mpl_ast.specs.declared.expression.Relation.{Relation, fold_out-Relation, map-Relation, out-Relation}
use Rattle.mpl_ast.specs.declared.expression.Sum.{Sum, fold_out-Sum, map-Sum, out-Sum}
use Rattle.mpl_ast.specs.declared.expression.Term.{Term, fold_out-Term, map-Term, out-Term}
use Rattle.mpl_ast.specs.declared.expression.Unary.{Unary, fold_out-Unary, map-Unary, out-Unary}
use Rattle.mpl_mean.specs.Levels.{Forms, expression_step, conjunction_step, equality_step, relation_step, sum_step, term_step, unary_step, expression_by, conjunction_by, equality_by, relation_by, sum_by, term_by, unary_by, primary_by, place_by}
use Rattle.mpl_mean.specs.Meaning.ExpressionMeaning.{Evaluates, value_of, value_of_forms}
use Rattle.mpl_mean.specs.Meaning.CallMeaning.{MayName, whole_name, name_of_forms}

-- what is made of a tree of each type
record Made (A : Type 0) : Type 0 where
  conjunction : Conjunction → A
  equality : Equality → A
  expression : Expression → A
  place : Place → A
  primary : Primary → A
  relation : Relation → A
  sum : Sum → A
  term : Term → A
  unary : Unary → A

abbrev folded : {A : Type 0} → Forms A → Made A
folded forms = record {
  conjunction = conjunction_by forms;
  equality = equality_by forms;
  expression = expression_by forms;
  place = place_by forms;
  primary = primary_by forms;
  relation = relation_by forms;
  sum = sum_by forms;
  term = term_by forms;
  unary = unary_by forms;
}

-- one layer more
abbrev next : {A : Type 0} → Forms A → Made A → Made A
next {A} s m = record {
  conjunction = λ t. conjunction_step s (map-Conjunction Conjunction Equality Expression Place Primary Relation Sum Term Unary A A A A A A A A A m.conjunction m.equality m.expression m.place m.primary m.relation m.sum m.term m.unary (out-Conjunction t));
  equality = λ t. equality_step s (map-Equality Conjunction Equality Expression Place Primary Relation Sum Term Unary A A A A A A A A A m.conjunction m.equality m.expression m.place m.primary m.relation m.sum m.term m.unary (out-Equality t));
  expression = λ t. expression_step s (map-Expression Conjunction Equality Expression Place Primary Relation Sum Term Unary A A A A A A A A A m.conjunction m.equality m.expression m.place m.primary m.relation m.sum m.term m.unary (out-Expression t));
  place = λ t. s.place (map-Place Conjunction Equality Expression Place Primary Relation Sum Term Unary A A A A A A A A A m.conjunction m.equality m.expression m.place m.primary m.relation m.sum m.term m.unary (out-Place t));
  primary = λ t. s.primary (map-Primary Conjunction Equality Expression Place Primary Relation Sum Term Unary A A A A A A A A A m.conjunction m.equality m.expression m.place m.primary m.relation m.sum m.term m.unary (out-Primary t));
  relation = λ t. relation_step s (map-Relation Conjunction Equality Expression Place Primary Relation Sum Term Unary A A A A A A A A A m.conjunction m.equality m.expression m.place m.primary m.relation m.sum m.term m.unary (out-Relation t));
  sum = λ t. sum_step s (map-Sum Conjunction Equality Expression Place Primary Relation Sum Term Unary A A A A A A A A A m.conjunction m.equality m.expression m.place m.primary m.relation m.sum m.term m.unary (out-Sum t));
  term = λ t. term_step s (map-Term Conjunction Equality Expression Place Primary Relation Sum Term Unary A A A A A A A A A m.conjunction m.equality m.expression m.place m.primary m.relation m.sum m.term m.unary (out-Term t));
  unary = λ t. unary_step s (map-Unary Conjunction Equality Expression Place Primary Relation Sum Term Unary A A A A A A A A A m.conjunction m.equality m.expression m.place m.primary m.relation m.sum m.term m.unary (out-Unary t));
}

abbrev opened : {A : Type 0} → Forms A → ℕ → Made A
opened s zero = folded s
opened s (suc n) = next s (opened s n)

one_more : {A : Type 0} (s : Forms A) → folded s ≡ next s (folded s)
one_more {A} s = λ i. record {
  conjunction = λ t. fold_out-Conjunction A A A A A A A A A (conjunction_step s) (equality_step s) (expression_step s) s.place s.primary (relation_step s) (sum_step s) (term_step s) (unary_step s) t i;
  equality = λ t. fold_out-Equality A A A A A A A A A (conjunction_step s) (equality_step s) (expression_step s) s.place s.primary (relation_step s) (sum_step s) (term_step s) (unary_step s) t i;
  expression = λ t. fold_out-Expression A A A A A A A A A (conjunction_step s) (equality_step s) (expression_step s) s.place s.primary (relation_step s) (sum_step s) (term_step s) (unary_step s) t i;
  place = λ t. fold_out-Place A A A A A A A A A (conjunction_step s) (equality_step s) (expression_step s) s.place s.primary (relation_step s) (sum_step s) (term_step s) (unary_step s) t i;
  primary = λ t. fold_out-Primary A A A A A A A A A (conjunction_step s) (equality_step s) (expression_step s) s.place s.primary (relation_step s) (sum_step s) (term_step s) (unary_step s) t i;
  relation = λ t. fold_out-Relation A A A A A A A A A (conjunction_step s) (equality_step s) (expression_step s) s.place s.primary (relation_step s) (sum_step s) (term_step s) (unary_step s) t i;
  sum = λ t. fold_out-Sum A A A A A A A A A (conjunction_step s) (equality_step s) (expression_step s) s.place s.primary (relation_step s) (sum_step s) (term_step s) (unary_step s) t i;
  term = λ t. fold_out-Term A A A A A A A A A (conjunction_step s) (equality_step s) (expression_step s) s.place s.primary (relation_step s) (sum_step s) (term_step s) (unary_step s) t i;
  unary = λ t. fold_out-Unary A A A A A A A A A (conjunction_step s) (equality_step s) (expression_step s) s.place s.primary (relation_step s) (sum_step s) (term_step s) (unary_step s) t i;
}

opens : {A : Type 0} (s : Forms A) (n : ℕ) → folded s ≡ opened s n
opens s zero = refl
opens s (suc n) = one_more s ∙ ap (next s) (opens s n)

-- the value of an expression, and the name that it is
abbrev pub value_to : ℕ → Expression → Evaluates
value_to n = (opened value_of_forms n).expression

abbrev pub name_to : ℕ → Expression → MayName
name_to n = (opened name_of_forms n).expression

pub value_opens : (n : ℕ) → value_of ≡ value_to n
value_opens n = ap (λ m. m.expression) (opens value_of_forms n)

pub name_opens : (n : ℕ) → whole_name ≡ name_to n
name_opens n = ap (λ m. m.expression) (opens name_of_forms n)
