use Rattle.mdf_core.proofs.TreeOfActors.{sums_up, tree}
use Rattle.mdf_core.proofs.laws.actors_are_a_tree.Goals as goal

pub returns-clause-tree : goal.returns-clause-tree
returns-clause-tree c = tree

pub returns-clause-sums : goal.returns-clause-sums
returns-clause-sums c = sums_up
