use Rattle.mpl_trees.proofs.Programs.{program-taken}
use Rattle.mpl_trees.proofs.laws.programs_are_taken.Goals as goal

pub returns : goal.returns
returns c = program-taken
