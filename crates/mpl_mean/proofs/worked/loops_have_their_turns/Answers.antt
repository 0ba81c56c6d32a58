use Rattle.std.proofs.Common.{[], ◌∷◌, pos}
use Rattle.mpl_mean.specs.SmallPrograms.LoopPrograms as program
use Rattle.mpl_mean.proofs.SmallPrograms.OpenedBodies.{opened_yield, runs}
use Rattle.mpl_mean.proofs.worked.loops_have_their_turns.Goals as goal

pub returns-clause-products_of_input : goal.returns-clause-products_of_input
unfolding opened_yield
returns-clause-products_of_input c = runs program.products_of_input (pos 1 ∷ pos 2 ∷ pos 3 ∷ pos 4 ∷ pos 5 ∷ pos 6 ∷ pos 7 ∷ pos 8 ∷ []) 25

pub returns-clause-endless : goal.returns-clause-endless
unfolding opened_yield
returns-clause-endless c = runs program.endless [] 100
