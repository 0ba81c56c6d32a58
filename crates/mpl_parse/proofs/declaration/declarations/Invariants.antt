use Rattle.std.proofs.Common.{◌≡◌, ◌-◌}
use Rattle.mpl_trees.specs.Programs.{take_declarations}
use Rattle.mpl_reader.specs.Reader.{most_number, rest_of}
use Rattle.mpl_expressions.proofs.Turns.{behind}
use Rattle.mpl_parse.proofs.declaration.declarations.Given as goal

abbrev pub invariant-loop-turn : goal.invariant-loop-turn
invariant-loop-turn l = take_declarations l.turns most_number (rest_of l.fn.reader) ≡ behind l.list (take_declarations (l.turns - l._turn) most_number (rest_of l.reader))
