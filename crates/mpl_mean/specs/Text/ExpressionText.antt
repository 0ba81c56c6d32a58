-- The tokens of expressions.
use Rattle.std.specs.Prelude.{ℕ}
use Rattle.mpl_ast.specs.declared.expression.Expression.{Expression}
use Rattle.mpl_ast.specs.declared.expression.Place.{Place}
use Rattle.mpl_ast.specs.declared.expression.Conjunction.TheOpen.{Place-F, Primary-F}
use Rattle.mpl_ast.specs.declared.expression.EqualityOperator.{EqualityOperator}
use Rattle.mpl_ast.specs.declared.expression.EqualityOperator.TheVariants.{Equal, Unequal}
use Rattle.mpl_ast.specs.declared.expression.RelationOperator.{RelationOperator}
use Rattle.mpl_ast.specs.declared.expression.RelationOperator.TheVariants as relation
use Rattle.mpl_ast.specs.declared.expression.SumOperator.{SumOperator}
use Rattle.mpl_ast.specs.declared.expression.SumOperator.TheVariants as sum
use Rattle.mpl_ast.specs.declared.expression.TermOperator.{TermOperator}
use Rattle.mpl_ast.specs.declared.expression.TermOperator.TheVariants as term
use Rattle.mpl_ast.specs.declared.expression.UnaryOperator.{UnaryOperator}
use Rattle.mpl_ast.specs.declared.expression.UnaryOperator.TheVariants as unary
use Rattle.mpl_ast.specs.declared.expression.Target.{Target}
use Rattle.mpl_ast.specs.declared.expression.Target.TheVariants.{Variable, Field}
use Rattle.mpl_ast.specs.declared.place.At.{At}
use Rattle.mpl_ast.specs.declared.token.Keyword.TheVariants as word
use Rattle.mpl_ast.specs.declared.token.Mark.{Mark}
use Rattle.mpl_ast.specs.declared.token.Mark.TheVariants as m
use Rattle.mpl_mean.specs.Levels.{BinaryOperator, Or, And, Equate, Compare, Add, Multiply, Forms, expression_by, place_by}
use Rattle.mpl_mean.specs.Text.Reading.{Reads, ◌>>◌, node, mark, mark_on, keyword, name, token, is_number, separated_if_any}

-- ---- the mark of an operator

abbrev pub equality_mark : EqualityOperator → Mark
equality_mark Equal = m.EqualEqual
equality_mark Unequal = m.NotEqual

abbrev pub relation_mark : RelationOperator → Mark
relation_mark relation.Less = m.Less
relation_mark relation.LessEqual = m.LessEqual
relation_mark relation.Greater = m.Greater
relation_mark relation.GreaterEqual = m.GreaterEqual

abbrev pub sum_mark : SumOperator → Mark
sum_mark sum.Plus = m.Plus
sum_mark sum.Minus = m.Minus

abbrev pub term_mark : TermOperator → Mark
term_mark term.Times = m.Star
term_mark term.Over = m.Slash
term_mark term.Modulo = m.Percent

abbrev pub binary_mark : BinaryOperator → Mark
binary_mark Or = m.OrOr
binary_mark And = m.AndAnd
binary_mark (Equate operator) = equality_mark operator
binary_mark (Compare operator) = relation_mark operator
binary_mark (Add operator) = sum_mark operator
binary_mark (Multiply operator) = term_mark operator

abbrev pub unary_mark : UnaryOperator → Mark
unary_mark unary.Negative = m.Minus
unary_mark unary.Not = m.Not

-- ---- one form after another

abbrev pub target_text : Target → Reads
target_text (Variable at variable) = node at (name variable)
target_text (Field at variable field) = node at (name variable >> mark m.Dot >> name field)

-- two with an operator between them
abbrev pub text_of_binary : At → ℕ → BinaryOperator → Reads → Reads → Reads
text_of_binary at line operator left right = node at (left >> mark_on line (binary_mark operator) >> right)

abbrev pub text_of_unary : At → ℕ → UnaryOperator → Reads → Reads
text_of_unary at line operator operand = node at (mark_on line (unary_mark operator) >> operand)

abbrev pub primary_step : Primary-F Reads Reads Reads Reads Reads Reads Reads Reads Reads → Reads
primary_step (Primary-F.Number at value) = node at (token (λ t. is_number value t.kind))
primary_step (Primary-F.True at) = node at (keyword word.True)
primary_step (Primary-F.False at) = node at (keyword word.False)
primary_step (Primary-F.Own at) = node at (keyword word.Own)
primary_step (Primary-F.Read at place) = node at place
primary_step (Primary-F.Input at) = node at (keyword word.Input >> mark m.OpenParenthesis >> mark m.CloseParenthesis)
primary_step (Primary-F.CallPlain at function arguments) =
    node at (name function >> mark m.OpenParenthesis >> separated_if_any arguments >> mark m.CloseParenthesis)
primary_step (Primary-F.Parenthesized at inner) =
    node at (mark m.OpenParenthesis >> inner >> mark m.CloseParenthesis)

abbrev pub place_step : Place-F Reads Reads Reads Reads Reads Reads Reads Reads Reads → Reads
place_step (Place-F.Whole at target) = node at (target_text target)
place_step (Place-F.Element at line target index) =
    node at (target_text target >> mark_on line m.OpenBracket >> index >> mark m.CloseBracket)

-- ---- the whole of it

abbrev pub text_of_forms : Forms Reads
text_of_forms = record { alone = node; binary = text_of_binary; unary = text_of_unary; primary = primary_step; place = place_step }

abbrev pub expression_text : Expression → Reads
expression_text = expression_by text_of_forms

abbrev pub place_text : Place → Reads
place_text = place_by text_of_forms
