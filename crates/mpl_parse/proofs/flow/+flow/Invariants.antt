use Rattle.std.proofs.Common.{◌≡◌, ◌-◌, ◌+◌, ◌*◌}
use Rattle.mpl_trees.specs.Flows.{take_flow}
use Rattle.mpl_trees.specs.Taking.{more_of, some_of}
use Rattle.mpl_reader.specs.Reader.{most_number, rest_of}
use Rattle.mpl_expressions.proofs.Turns.{behind}
use Rattle.mpl_parse.proofs.flow.+flow.Given as goal

abbrev pub decreases-arguments : goal.decreases-arguments
decreases-arguments l = 12 * l.depth + 5

abbrev pub decreases-call : goal.decreases-call
decreases-call l = 12 * l.depth + 8

abbrev pub decreases-call_flow : goal.decreases-call_flow
decreases-call_flow l = 12 * l.depth + 9

abbrev pub decreases-flow : goal.decreases-flow
decreases-flow l = 12 * l.depth

abbrev pub decreases-flow_within : goal.decreases-flow_within
decreases-flow_within l = 12 * l.inside + 10

abbrev pub decreases-flows : goal.decreases-flows
decreases-flows l = 12 * l.depth + 3

abbrev pub decreases-flows_if_any : goal.decreases-flows_if_any
decreases-flows_if_any l = 12 * l.depth + 4

abbrev pub decreases-member : goal.decreases-member
decreases-member l = 12 * l.depth + 6

abbrev pub decreases-own_call : goal.decreases-own_call
decreases-own_call l = 12 * l.depth + 7

abbrev pub decreases-target_call : goal.decreases-target_call
decreases-target_call l = 12 * l.depth + 7

abbrev pub invariant-flows-loop-turn : goal.invariant-flows-loop-turn
invariant-flows-loop-turn l = some_of (take_flow l.depth) most_number (rest_of l.fn.reader) ≡ behind l.list (more_of (take_flow l.depth) (l.turns - l._turn) most_number (rest_of l.reader))
