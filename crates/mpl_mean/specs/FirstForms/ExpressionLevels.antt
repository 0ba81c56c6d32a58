-- Of each level of an expression: which tokens it has, what it means, which name it is, and what the type rules see of it.
use Rattle.mpl_ast.specs.declared.expression.Conjunction.{Conjunction}
use Rattle.mpl_ast.specs.declared.expression.Equality.{Equality}
use Rattle.mpl_ast.specs.declared.expression.Place.{Place}
use Rattle.mpl_ast.specs.declared.expression.Primary.{Primary}
use Rattle.mpl_ast.specs.declared.expression.Relation.{Relation}
use Rattle.mpl_ast.specs.declared.expression.Sum.{Sum}
use Rattle.mpl_ast.specs.declared.expression.Term.{Term}
use Rattle.mpl_ast.specs.declared.expression.Unary.{Unary}
use Rattle.mpl_mean.specs.Levels.{conjunction_by, equality_by, relation_by, sum_by, term_by, unary_by, primary_by, place_by}
use Rattle.mpl_mean.specs.Meaning.CallMeaning.{MayName, name_of_forms}
use Rattle.mpl_mean.specs.Meaning.ExpressionMeaning.{Evaluates, value_of_forms}
use Rattle.mpl_mean.specs.Text.ExpressionText.{text_of_forms}
use Rattle.mpl_mean.specs.Plain.Expr.{Expr, expr_of_forms}
use Rattle.mpl_mean.specs.Text.Reading.{Reads}

-- ---- tokens

abbrev pub conjunction_text : Conjunction → Reads
conjunction_text = conjunction_by text_of_forms

abbrev pub equality_text : Equality → Reads
equality_text = equality_by text_of_forms

abbrev pub relation_text : Relation → Reads
relation_text = relation_by text_of_forms

abbrev pub sum_text : Sum → Reads
sum_text = sum_by text_of_forms

abbrev pub term_text : Term → Reads
term_text = term_by text_of_forms

abbrev pub unary_text : Unary → Reads
unary_text = unary_by text_of_forms

abbrev pub primary_text : Primary → Reads
primary_text = primary_by text_of_forms

-- ---- values

abbrev pub conjunction_value : Conjunction → Evaluates
conjunction_value = conjunction_by value_of_forms

abbrev pub equality_value : Equality → Evaluates
equality_value = equality_by value_of_forms

abbrev pub relation_value : Relation → Evaluates
relation_value = relation_by value_of_forms

abbrev pub sum_value : Sum → Evaluates
sum_value = sum_by value_of_forms

abbrev pub term_value : Term → Evaluates
term_value = term_by value_of_forms

abbrev pub unary_value : Unary → Evaluates
unary_value = unary_by value_of_forms

abbrev pub primary_value : Primary → Evaluates
primary_value = primary_by value_of_forms

abbrev pub place_value : Place → Evaluates
place_value = place_by value_of_forms

-- ---- names

abbrev pub conjunction_name : Conjunction → MayName
conjunction_name = conjunction_by name_of_forms

abbrev pub equality_name : Equality → MayName
equality_name = equality_by name_of_forms

abbrev pub relation_name : Relation → MayName
relation_name = relation_by name_of_forms

abbrev pub sum_name : Sum → MayName
sum_name = sum_by name_of_forms

abbrev pub term_name : Term → MayName
term_name = term_by name_of_forms

abbrev pub unary_name : Unary → MayName
unary_name = unary_by name_of_forms

abbrev pub primary_name : Primary → MayName
primary_name = primary_by name_of_forms

abbrev pub place_name : Place → MayName
place_name = place_by name_of_forms

-- ---- what the type rules see

abbrev pub expr_of_conjunction : Conjunction → Expr
expr_of_conjunction = conjunction_by expr_of_forms

abbrev pub expr_of_equality : Equality → Expr
expr_of_equality = equality_by expr_of_forms

abbrev pub expr_of_relation : Relation → Expr
expr_of_relation = relation_by expr_of_forms

abbrev pub expr_of_sum : Sum → Expr
expr_of_sum = sum_by expr_of_forms

abbrev pub expr_of_term : Term → Expr
expr_of_term = term_by expr_of_forms

abbrev pub expr_of_unary : Unary → Expr
expr_of_unary = unary_by expr_of_forms

abbrev pub expr_of_primary : Primary → Expr
expr_of_primary = primary_by expr_of_forms
