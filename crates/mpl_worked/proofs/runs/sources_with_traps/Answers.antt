use Rattle.std.proofs.Common.{[], ◌∷◌, negsuc, refl}
use Rattle.mpl_mean.proofs.SmallPrograms.OpenedBodies.{opened_yield, runs}
use Rattle.mpl_worked.specs.Sources as source
use Rattle.mpl_worked.proofs.TreeOfSource.{source_runs, tree_of}
use Rattle.mpl_worked.proofs.runs.sources_with_traps.Goals as goal

pub returns-clause-overflow : goal.returns-clause-overflow
unfolding opened_yield
returns-clause-overflow c = source_runs source.too_large [] 1 _ refl refl refl (runs (tree_of source.too_large) [] 1)

pub returns-clause-index : goal.returns-clause-index
unfolding opened_yield
returns-clause-index c = source_runs source.index_outside [] 1 _ refl refl refl (runs (tree_of source.index_outside) [] 1)

pub returns-clause-unbound : goal.returns-clause-unbound
unfolding opened_yield
returns-clause-unbound c = source_runs source.no_object [] 1 _ refl refl refl (runs (tree_of source.no_object) [] 1)

pub returns-clause-no_input : goal.returns-clause-no_input
unfolding opened_yield
returns-clause-no_input c = source_runs source.asks_for_input [] 1 _ refl refl refl (runs (tree_of source.asks_for_input) [] 1)

pub returns-clause-input : goal.returns-clause-input
unfolding opened_yield
returns-clause-input c = source_runs source.asks_for_input (negsuc 6 ∷ []) 1 _ refl refl refl (runs (tree_of source.asks_for_input) (negsuc 6 ∷ []) 1)

pub returns-clause-twice_is_not_reported : goal.returns-clause-twice_is_not_reported
unfolding opened_yield
returns-clause-twice_is_not_reported c = source_runs source.second_result [] 3 _ refl refl refl (runs (tree_of source.second_result) [] 3)

pub returns-clause-no_reply_forced : goal.returns-clause-no_reply_forced
unfolding opened_yield
returns-clause-no_reply_forced c = source_runs source.no_result [] 3 _ refl refl refl (runs (tree_of source.no_result) [] 3)

pub returns-clause-no_reply_of_a_function : goal.returns-clause-no_reply_of_a_function
unfolding opened_yield
returns-clause-no_reply_of_a_function c = source_runs source.function_without_result [] 2 _ refl refl refl (runs (tree_of source.function_without_result) [] 2)
