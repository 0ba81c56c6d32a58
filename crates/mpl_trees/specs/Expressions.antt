-- Expressions are taken: their operands in a row, which is then folded, and in the operands further expressions.
use Rattle.std.specs.Prelude.{ℕ, zero, suc, Bool, true, false, ◌&&◌, ◌||◌, List, [], ◌∷◌, Option, Some, None, if◌then◌else◌}
use Rattle.std.specs.Option.{option_and_then, option_map}
use Rattle.mpl_ast.specs.declared.expression.Expression.{Expression}
use Rattle.mpl_ast.specs.declared.expression.Place.{Place, roll-Place}
use Rattle.mpl_ast.specs.declared.expression.Primary.{Primary, roll-Primary}
use Rattle.mpl_ast.specs.declared.expression.Target.{Target}
use Rattle.mpl_ast.specs.declared.expression.Target.TheVariants.{Variable, Field}
use Rattle.mpl_ast.specs.declared.expression.Unary.{Unary, roll-Unary}
use Rattle.mpl_ast.specs.declared.expression.UnaryOperator.{UnaryOperator}
use Rattle.mpl_ast.specs.declared.expression.UnaryOperator.TheVariants as unary
use Rattle.mpl_ast.specs.declared.expression.Conjunction.TheOpen.{Place-F, Primary-F, Unary-F}
use Rattle.mpl_ast.specs.declared.place.At.{At}
use Rattle.mpl_ast.specs.declared.place.Name.{Name}
use Rattle.mpl_ast.specs.declared.token.Keyword.TheVariants as word
use Rattle.mpl_ast.specs.declared.token.Mark.TheVariants as m
use Rattle.mpl_ast.specs.declared.token.Token.{Token}
use Rattle.mpl_ast.specs.declared.token.TokenKind.{TokenKind}
use Rattle.mpl_ast.specs.declared.token.TokenKind.TheVariants as kind
use Rattle.mpl_mean.specs.Text.ExpressionText.{unary_mark}
use Rattle.mpl_mean.specs.Text.Reading.{◌>>◌, is_mark, keyword, mark}
use Rattle.mpl_trees.specs.Folds.{whole_row}
use Rattle.mpl_trees.specs.Rows.{take_pieces}
use Rattle.mpl_trees.specs.Taking.{Takes, ahead, alone, both, continued, is_ahead, line_of, list_of, made, node_of, skip_then, start_of, take_name, take_number, then_skip}

-- ---- expressions

abbrev pub expression_of : Takes Unary → Takes Expression
expression_of unary limit r = option_and_then (λ p. option_map (λ e. (e, p.1)) (whole_row limit (start_of r) p.0)) (take_pieces unary limit r)

-- ---- places

-- behind the first token
abbrev pub second : List Token → List Token
second [] = []
second (t ∷ ts) = ts

abbrev pub take_field : Takes Target
take_field = node_of (λ at (p : Name × Name). Field at p.0 p.1) (both (λ variable field. (variable, field)) take_name (skip_then (mark m.Dot) take_name))

abbrev pub take_target : Takes Target
take_target limit r = if is_ahead (is_mark m.Dot) (second r.tokens) then take_field limit r else node_of Variable take_name limit r

-- an element of the target, where there is an index, else all of it
abbrev pub element_of : Takes Expression → Target → Takes (At → Place)
element_of expression t limit r = made (λ index at. roll-Place (Place-F.Element at (line_of r.tokens) t index)) (skip_then (mark m.OpenBracket) (then_skip expression (mark m.CloseBracket))) limit r

abbrev pub behind_target : Takes Expression → Target → Takes (At → Place)
behind_target expression t limit r = if is_ahead (is_mark m.OpenBracket) r.tokens then element_of expression t limit r else Some (λ at. roll-Place (Place-F.Whole at t), r)

abbrev pub take_place : Takes Expression → Takes Place
take_place expression = node_of (λ at p. p at) (continued take_target (behind_target expression))

-- ---- operands

abbrev pub take_plain_call : Takes Expression → Takes Primary
take_plain_call expression =
    node_of (λ at (p : Name × List Expression). roll-Primary (Primary-F.CallPlain at p.0 p.1)) (both (λ function arguments. (function, arguments)) take_name (skip_then (mark m.OpenParenthesis) (then_skip (list_of expression) (mark m.CloseParenthesis))))

abbrev pub take_named : Takes Expression → Takes Primary
take_named expression limit r =
    if is_ahead (is_mark m.OpenParenthesis) (second r.tokens) then take_plain_call expression limit r
    else node_of (λ at p. roll-Primary (Primary-F.Read at p)) (take_place expression) limit r

abbrev pub primary_at : Takes Expression → Option TokenKind → Takes Primary
primary_at expression (Some (kind.Name text)) limit r = take_named expression limit r
primary_at expression (Some (kind.Number value)) limit r = node_of (λ at n. roll-Primary (Primary-F.Number at n.value)) take_number limit r
primary_at expression (Some (kind.Keyword word.True)) limit r = node_of (λ at (n : Bool). roll-Primary (Primary-F.True at)) (alone true (keyword word.True)) limit r
primary_at expression (Some (kind.Keyword word.False)) limit r = node_of (λ at (n : Bool). roll-Primary (Primary-F.False at)) (alone true (keyword word.False)) limit r
primary_at expression (Some (kind.Keyword word.Own)) limit r = node_of (λ at (n : Bool). roll-Primary (Primary-F.Own at)) (alone true (keyword word.Own)) limit r
primary_at expression (Some (kind.Keyword word.Input)) limit r =
    node_of (λ at (n : Bool). roll-Primary (Primary-F.Input at)) (alone true (keyword word.Input >> mark m.OpenParenthesis >> mark m.CloseParenthesis)) limit r
primary_at expression (Some (kind.Mark m.OpenParenthesis)) limit r =
    node_of (λ at e. roll-Primary (Primary-F.Parenthesized at e)) (skip_then (mark m.OpenParenthesis) (then_skip expression (mark m.CloseParenthesis))) limit r
primary_at expression _ limit r = None

abbrev pub take_primary : Takes Expression → Takes Primary
take_primary expression limit r = primary_at expression (ahead r.tokens) limit r

abbrev pub take_apply : UnaryOperator → Takes Unary → Takes Unary
take_apply operator unary limit r = node_of (λ at u. roll-Unary (Unary-F.Apply at (line_of r.tokens) operator u)) (skip_then (mark (unary_mark operator)) unary) limit r

abbrev pub unary_at : Takes Unary → Option TokenKind → Takes Unary
unary_at operand (Some (kind.Mark m.Minus)) limit r = take_apply unary.Negative operand limit r
unary_at operand (Some (kind.Mark m.Not)) limit r = take_apply unary.Not operand limit r
unary_at operand _ limit r = node_of (λ at p. roll-Unary (Unary-F.OnePrimary at p)) (take_primary (expression_of operand)) limit r

-- within so many operands
abbrev pub take_unary : ℕ → Takes Unary
take_unary zero limit r = None
take_unary (suc depth) limit r = unary_at (take_unary depth) (ahead r.tokens) limit r

abbrev pub take_expression : ℕ → Takes Expression
take_expression depth = expression_of (take_unary depth)

-- ---- before an expression or a call

-- behind three tokens
abbrev pub past_field : List Token → List Token
past_field ts = second (second (second ts))

-- a call begins here, on `self` or a target, and no expression
abbrev pub begins_call : Option TokenKind → List Token → Bool
begins_call (Some (kind.Name text)) ts = is_ahead (is_mark m.Dot) (second ts) && (is_ahead (is_mark m.OpenParenthesis) (past_field ts) || is_ahead (is_mark m.Dot) (past_field ts))
begins_call (Some (kind.Keyword word.Own)) ts = is_ahead (is_mark m.Dot) (second ts)
begins_call _ ts = false
