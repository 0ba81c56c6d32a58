use Rattle.std.proofs.Common.{◌≡◌, ◌-◌, ◌+◌, ◌*◌}
use Rattle.mpl_trees.specs.Statements.{take_statement}
use Rattle.mpl_trees.specs.Taking.{all_of}
use Rattle.mpl_reader.specs.Reader.{most_number, rest_of}
use Rattle.mpl_expressions.proofs.Turns.{behind}
use Rattle.mpl_parse.proofs.statement.+statement.Given as goal

abbrev pub decreases-block : goal.decreases-block
decreases-block l = 12 * l.depth + 9

abbrev pub decreases-boxed : goal.decreases-boxed
decreases-boxed l = 12 * l.depth + 2

abbrev pub decreases-choice : goal.decreases-choice
decreases-choice l = 12 * l.inside + 6

abbrev pub decreases-counted : goal.decreases-counted
decreases-counted l = 12 * l.inside + 6

abbrev pub decreases-of_block : goal.decreases-of_block
decreases-of_block l = 12 * l.depth + 10

abbrev pub decreases-other : goal.decreases-other
decreases-other l = 12 * l.depth + 5

abbrev pub decreases-repeated : goal.decreases-repeated
decreases-repeated l = 12 * l.inside + 6

abbrev pub decreases-statement : goal.decreases-statement
decreases-statement l = 12 * l.depth

abbrev pub decreases-statement_within : goal.decreases-statement_within
decreases-statement_within l = 12 * l.inside + 11

abbrev pub decreases-statements : goal.decreases-statements
decreases-statements l = 12 * l.depth + 8

abbrev pub invariant-statements-loop-turn : goal.invariant-statements-loop-turn
invariant-statements-loop-turn l = all_of (take_statement l.depth) l.turns most_number (rest_of l.fn.reader) ≡ behind l.list (all_of (take_statement l.depth) (l.turns - l._turn) most_number (rest_of l.reader))
