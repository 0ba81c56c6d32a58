use Rattle.std.proofs.Common.{[], ◌∷◌, pos, refl}
use Rattle.mpl_mean.proofs.SmallPrograms.OpenedBodies.{opened_yield, runs}
use Rattle.mpl_worked.specs.Sources as source
use Rattle.mpl_worked.proofs.TreeOfSource.{source_runs, tree_of}
use Rattle.mpl_worked.proofs.runs.sources_with_loops.Goals as goal

pub returns-clause-products_of_input : goal.returns-clause-products_of_input
unfolding opened_yield
returns-clause-products_of_input c = source_runs source.products_of_input (pos 1 ∷ pos 2 ∷ pos 3 ∷ pos 4 ∷ pos 5 ∷ pos 6 ∷ pos 7 ∷ pos 8 ∷ []) 25 _ refl refl refl (runs (tree_of source.products_of_input) (pos 1 ∷ pos 2 ∷ pos 3 ∷ pos 4 ∷ pos 5 ∷ pos 6 ∷ pos 7 ∷ pos 8 ∷ []) 25)

pub returns-clause-endless : goal.returns-clause-endless
unfolding opened_yield
returns-clause-endless c = source_runs source.endless [] 100 _ refl refl refl (runs (tree_of source.endless) [] 100)

pub returns-clause-nearest_if : goal.returns-clause-nearest_if
unfolding opened_yield
returns-clause-nearest_if c = source_runs source.nearest_if [] 5 _ refl refl refl (runs (tree_of source.nearest_if) [] 5)
