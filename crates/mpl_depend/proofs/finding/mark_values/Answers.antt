use Rattle.std.proofs.Common.{List, subst}
use Rattle.std.specs.List.{Contains}
use Rattle.mpl_depend.specs.declared.values.Edge.{Edge}
use Rattle.mpl_depend.proofs.finding.mark_values.Goals as goal

pub ranks_of-requires-clause-into : goal.ranks_of-requires-clause-into
ranks_of-requires-clause-into c = λ edge is. c.requires.into edge (subst (λ (edges : List Edge). Contains edges edge) c.as_slice.ensures.value is)
