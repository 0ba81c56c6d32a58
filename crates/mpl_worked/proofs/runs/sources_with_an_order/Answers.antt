use Rattle.std.proofs.Common.{[], refl}
use Rattle.mpl_mean.proofs.SmallPrograms.OpenedBodies.{opened_yield, runs}
use Rattle.mpl_worked.specs.Sources as source
use Rattle.mpl_worked.proofs.TreeOfSource.{source_runs, tree_of}
use Rattle.mpl_worked.proofs.runs.sources_with_an_order.Goals as goal

pub returns-clause-parentheses_force : goal.returns-clause-parentheses_force
unfolding opened_yield
returns-clause-parentheses_force c = source_runs source.parentheses_force [] 3 _ refl refl refl (runs (tree_of source.parentheses_force) [] 3)

pub returns-clause-right_side_first : goal.returns-clause-right_side_first
unfolding opened_yield
returns-clause-right_side_first c = source_runs source.right_side_first [] 1 _ refl refl refl (runs (tree_of source.right_side_first) [] 1)

pub returns-clause-variable_before_index : goal.returns-clause-variable_before_index
unfolding opened_yield
returns-clause-variable_before_index c = source_runs source.variable_before_index [] 3 _ refl refl refl (runs (tree_of source.variable_before_index) [] 3)

pub returns-clause-receiver_first : goal.returns-clause-receiver_first
unfolding opened_yield
returns-clause-receiver_first c = source_runs source.receiver_first [] 1 _ refl refl refl (runs (tree_of source.receiver_first) [] 1)

pub returns-clause-left_decides : goal.returns-clause-left_decides
unfolding opened_yield
returns-clause-left_decides c = source_runs source.left_decides [] 1 _ refl refl refl (runs (tree_of source.left_decides) [] 1)

pub returns-clause-inner_names : goal.returns-clause-inner_names
unfolding opened_yield
returns-clause-inner_names c = source_runs source.inner_names [] 3 _ refl refl refl (runs (tree_of source.inner_names) [] 3)

pub returns-clause-function_in_function : goal.returns-clause-function_in_function
unfolding opened_yield
returns-clause-function_in_function c = source_runs source.function_in_function [] 3 _ refl refl refl (runs (tree_of source.function_in_function) [] 3)

pub returns-clause-quotient_to_zero : goal.returns-clause-quotient_to_zero
unfolding opened_yield
returns-clause-quotient_to_zero c = source_runs source.quotient_to_zero [] 1 _ refl refl refl (runs (tree_of source.quotient_to_zero) [] 1)
