-- What the checker's own counts of items stand for.
use Rattle.mpl_mean.specs.TypeRules.ProgramNodes as nodes
use Rattle.mpl_types.specs.declared.classes.Before.{Before}

abbrev pub seen_before : Before → nodes.Before
seen_before b = record { names = b.names; members = b.members; selects = b.selects }
