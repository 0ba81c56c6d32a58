use Rattle.std.proofs.Common.{◌≡◌, ◌-◌}
use Rattle.mpl_trees.specs.Programs.{take_entry}
use Rattle.mpl_trees.specs.Taking.{all_of}
use Rattle.mpl_reader.specs.Reader.{most_number, rest_of}
use Rattle.mpl_expressions.proofs.Turns.{behind}
use Rattle.mpl_parse.proofs.class.entries.Given as goal

abbrev pub invariant-loop-turn : goal.invariant-loop-turn
invariant-loop-turn l = all_of take_entry l.turns most_number (rest_of l.fn.reader) ≡ behind l.list (all_of take_entry (l.turns - l._turn) most_number (rest_of l.reader))
