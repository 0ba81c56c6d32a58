use Rattle.mpl_trees.proofs.Programs.{one_program}
use Rattle.mpl_trees.proofs.laws.tokens_have_one_program.Goals as goal

pub returns : goal.returns
returns c = one_program
