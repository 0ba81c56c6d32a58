use Rattle.std.proofs.Common.{◌≡◌, ◌+◌, ◌-◌, ◌*◌, ◌≤◌}
use Rattle.mpl_trees.specs.Expressions.{take_expression, take_unary}
use Rattle.mpl_trees.specs.Rows.{more_pieces}
use Rattle.mpl_trees.specs.Taking.{more_of, some_of}
use Rattle.mpl_reader.specs.Reader.{most_number, rest_of}
use Rattle.mpl_expressions.specs.Internal.Operands.{pieces_behind}
use Rattle.mpl_expressions.proofs.Turns.{behind}
use Rattle.mpl_expressions.proofs.operand.+expression.Given as goal

abbrev pub decreases-apply : goal.decreases-apply
decreases-apply l = 12 * l.depth + 2

abbrev pub decreases-arguments : goal.decreases-arguments
decreases-arguments l = 12 * l.depth + 6

abbrev pub decreases-expression : goal.decreases-expression
decreases-expression l = 12 * l.depth + 4

abbrev pub decreases-expressions : goal.decreases-expressions
decreases-expressions l = 12 * l.depth + 5

abbrev pub decreases-index : goal.decreases-index
decreases-index l = 12 * l.depth + 5

abbrev pub decreases-named : goal.decreases-named
decreases-named l = 12 * l.depth + 8

abbrev pub decreases-one_primary : goal.decreases-one_primary
decreases-one_primary l = 12 * l.depth + 10

abbrev pub decreases-operand : goal.decreases-operand
decreases-operand l = 12 * l.depth + 12

abbrev pub decreases-parenthesized : goal.decreases-parenthesized
decreases-parenthesized l = 12 * l.depth + 5

abbrev pub decreases-piece : goal.decreases-piece
decreases-piece l = 12 * l.depth + 2

abbrev pub decreases-pieces : goal.decreases-pieces
decreases-pieces l = 12 * l.depth + 3

abbrev pub decreases-place : goal.decreases-place
decreases-place l = 12 * l.depth + 6

abbrev pub decreases-plain_call : goal.decreases-plain_call
decreases-plain_call l = 12 * l.depth + 7

abbrev pub decreases-primary : goal.decreases-primary
decreases-primary l = 12 * l.depth + 9

abbrev pub decreases-read : goal.decreases-read
decreases-read l = 12 * l.depth + 7

abbrev pub decreases-unary : goal.decreases-unary
decreases-unary l = 12 * l.depth + 1

abbrev pub invariant-expressions-loop-turn : goal.invariant-expressions-loop-turn
invariant-expressions-loop-turn l =
    some_of (take_expression l.depth) most_number (rest_of l.fn.reader) ≡ behind l.list (more_of (take_expression l.depth) (l.turns - l._turn) most_number (rest_of l.reader))

abbrev pub invariant-pieces-loop-turn : goal.invariant-pieces-loop-turn
invariant-pieces-loop-turn l =
    pieces_behind (take_unary l.depth) l.turns l.fn.first most_number (rest_of l.fn.reader) ≡ behind l.row.pieces.items (more_pieces (take_unary l.depth) (l.turns - l._turn) most_number (rest_of l.reader))
