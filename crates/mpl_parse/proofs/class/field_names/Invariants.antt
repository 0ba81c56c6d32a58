use Rattle.std.proofs.Common.{◌≡◌, ◌-◌}
use Rattle.mpl_trees.specs.Programs.{take_field_name}
use Rattle.mpl_trees.specs.Taking.{more_of, some_of}
use Rattle.mpl_reader.specs.Reader.{most_number, rest_of}
use Rattle.mpl_expressions.proofs.Turns.{behind}
use Rattle.mpl_parse.proofs.class.field_names.Given as goal

abbrev pub invariant-loop-turn : goal.invariant-loop-turn
invariant-loop-turn l = some_of take_field_name most_number (rest_of l.fn.reader) ≡ behind l.list (more_of take_field_name (l.turns - l._turn) most_number (rest_of l.reader))
