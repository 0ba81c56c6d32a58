use Rattle.std.proofs.Common.{[], ◌∷◌, negsuc, pos}
use Rattle.std.specs.FinMap.{empty}
use Rattle.mpl_mean.specs.SmallPrograms.TrapPrograms as program
use Rattle.mpl_mean.specs.SmallPrograms.WorkedYields.{regular_start}
use Rattle.mpl_mean.proofs.SmallPrograms.OpenedBodies.{opened_yield, opens, runs}
use Rattle.mpl_mean.proofs.worked.traps_have_their_lines.Goals as goal

pub returns-clause-overflow : goal.returns-clause-overflow
unfolding opened_yield
returns-clause-overflow c = runs program.too_large [] 1

pub returns-clause-index : goal.returns-clause-index
unfolding opened_yield
returns-clause-index c = runs program.index_outside [] 1

pub returns-clause-unbound : goal.returns-clause-unbound
unfolding opened_yield
returns-clause-unbound c = runs program.no_object [] 1

pub returns-clause-no_input : goal.returns-clause-no_input
unfolding opened_yield
returns-clause-no_input c = runs program.asks_for_input [] 1

pub returns-clause-input : goal.returns-clause-input
unfolding opened_yield
returns-clause-input c = runs program.asks_for_input (negsuc 6 ∷ []) 1

pub returns-clause-twice : goal.returns-clause-twice
unfolding opened_yield
returns-clause-twice c = opens program.second_result (regular_start 0 (pos 0 ∷ [])) empty 1

pub returns-clause-twice_is_not_reported : goal.returns-clause-twice_is_not_reported
unfolding opened_yield
returns-clause-twice_is_not_reported c = runs program.second_result [] 3

pub returns-clause-no_reply : goal.returns-clause-no_reply
unfolding opened_yield
returns-clause-no_reply c = opens program.no_result (regular_start 0 (pos 0 ∷ [])) empty 1

pub returns-clause-no_reply_forced : goal.returns-clause-no_reply_forced
unfolding opened_yield
returns-clause-no_reply_forced c = runs program.no_result [] 3

pub returns-clause-no_reply_of_a_function : goal.returns-clause-no_reply_of_a_function
unfolding opened_yield
returns-clause-no_reply_of_a_function c = runs program.function_without_result [] 2
