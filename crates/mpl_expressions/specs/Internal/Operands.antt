-- Operands of one kind are taken.
use Rattle.std.specs.Prelude.{ℕ, Bool, true, List, ◌∷◌}
use Rattle.std.specs.Option.{option_map}
use Rattle.mpl_ast.specs.declared.expression.Expression.{Expression}
use Rattle.mpl_ast.specs.declared.expression.Primary.{Primary, roll-Primary}
use Rattle.mpl_ast.specs.declared.expression.Unary.{Unary, roll-Unary}
use Rattle.mpl_ast.specs.declared.expression.Conjunction.TheOpen.{Primary-F, Unary-F}
use Rattle.mpl_ast.specs.declared.token.Mark.TheVariants as m
use Rattle.mpl_ast.specs.declared.token.Keyword.TheVariants as word
use Rattle.mpl_mean.specs.Text.Reading.{◌>>◌, keyword, mark}
use Rattle.mpl_trees.specs.Expressions.{take_place, take_primary}
use Rattle.mpl_trees.specs.Rows.{more_pieces}
use Rattle.mpl_trees.specs.declared.piece.Piece.{Piece}
use Rattle.mpl_trees.specs.Taking.{Takes, alone, between, node_of, take_number}

abbrev pub take_one_primary : Takes Expression → Takes Unary
take_one_primary expression = node_of (λ at p. roll-Unary (Unary-F.OnePrimary at p)) (take_primary expression)

abbrev pub take_read : Takes Expression → Takes Primary
take_read expression = node_of (λ at p. roll-Primary (Primary-F.Read at p)) (take_place expression)

abbrev pub take_parenthesized : Takes Expression → Takes Primary
take_parenthesized expression = node_of (λ at e. roll-Primary (Primary-F.Parenthesized at e)) (between m.OpenParenthesis expression m.CloseParenthesis)

abbrev pub take_number_alone : Takes Primary
take_number_alone = node_of (λ at n. roll-Primary (Primary-F.Number at n.value)) take_number

abbrev pub take_input : Takes Primary
take_input = node_of (λ at (n : Bool). roll-Primary (Primary-F.Input at)) (alone true (keyword word.Input >> mark m.OpenParenthesis >> mark m.CloseParenthesis))

-- a first operand that was taken, and those behind it, at most so many
abbrev pub pieces_behind : Takes Unary → ℕ → Piece → Takes (List Piece)
pieces_behind unary turns first limit r = option_map (λ p. (first ∷ p.0, p.1)) (more_pieces unary turns limit r)
