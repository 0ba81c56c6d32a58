use Rattle.std.proofs.Common.{[]}
use Rattle.mpl_mean.specs.SmallPrograms.OrderPrograms as program
use Rattle.mpl_mean.proofs.SmallPrograms.OpenedBodies.{opened_yield, runs}
use Rattle.mpl_mean.proofs.worked.parts_have_their_order.Goals as goal

pub returns-clause-parentheses_force : goal.returns-clause-parentheses_force
unfolding opened_yield
returns-clause-parentheses_force c = runs program.parentheses_force [] 3

pub returns-clause-right_side_first : goal.returns-clause-right_side_first
unfolding opened_yield
returns-clause-right_side_first c = runs program.right_side_first [] 1

pub returns-clause-variable_before_index : goal.returns-clause-variable_before_index
unfolding opened_yield
returns-clause-variable_before_index c = runs program.variable_before_index [] 3

pub returns-clause-receiver_first : goal.returns-clause-receiver_first
unfolding opened_yield
returns-clause-receiver_first c = runs program.receiver_first [] 1

pub returns-clause-left_decides : goal.returns-clause-left_decides
unfolding opened_yield
returns-clause-left_decides c = runs program.left_decides [] 1

pub returns-clause-inner_names : goal.returns-clause-inner_names
unfolding opened_yield
returns-clause-inner_names c = runs program.inner_names [] 3

pub returns-clause-function_in_function : goal.returns-clause-function_in_function
unfolding opened_yield
returns-clause-function_in_function c = runs program.function_in_function [] 3

pub returns-clause-quotient_to_zero : goal.returns-clause-quotient_to_zero
unfolding opened_yield
returns-clause-quotient_to_zero c = runs program.quotient_to_zero [] 1
