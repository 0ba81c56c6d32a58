use Rattle.std.proofs.Common.{[], refl}
use Rattle.mpl_mean.proofs.SmallPrograms.OpenedBodies.{opened_yield, runs}
use Rattle.mpl_worked.specs.Sources as source
use Rattle.mpl_worked.proofs.TreeOfSource.{source_runs, tree_of}
use Rattle.mpl_worked.proofs.runs.sources_with_calls.Goals as goal

pub returns-clause-sum_of_squares : goal.returns-clause-sum_of_squares
unfolding opened_yield
returns-clause-sum_of_squares c = source_runs source.sum_of_squares [] 5 _ refl refl refl (runs (tree_of source.sum_of_squares) [] 5)

pub returns-clause-a_turn_too_few : goal.returns-clause-a_turn_too_few
unfolding opened_yield
returns-clause-a_turn_too_few c = source_runs source.sum_of_squares [] 4 _ refl refl refl (runs (tree_of source.sum_of_squares) [] 4)

pub returns-clause-fib_of_ten : goal.returns-clause-fib_of_ten
unfolding opened_yield
returns-clause-fib_of_ten c = source_runs source.fib_of_ten [] 531 _ refl refl refl (runs (tree_of source.fib_of_ten) [] 531)

pub returns-clause-one_result_twice : goal.returns-clause-one_result_twice
unfolding opened_yield
returns-clause-one_result_twice c = source_runs source.one_result_twice [] 5 _ refl refl refl (runs (tree_of source.one_result_twice) [] 5)

pub returns-clause-unforced_division : goal.returns-clause-unforced_division
unfolding opened_yield
returns-clause-unforced_division c = source_runs source.unforced_division [] 3 _ refl refl refl (runs (tree_of source.unforced_division) [] 3)

pub returns-clause-forced_division : goal.returns-clause-forced_division
unfolding opened_yield
returns-clause-forced_division c = source_runs source.forced_division [] 3 _ refl refl refl (runs (tree_of source.forced_division) [] 3)

pub returns-clause-leftmost_trap_wins : goal.returns-clause-leftmost_trap_wins
unfolding opened_yield
returns-clause-leftmost_trap_wins c = source_runs source.leftmost_trap_wins [] 6 _ refl refl refl (runs (tree_of source.leftmost_trap_wins) [] 6)

pub returns-clause-goes_on_after_its_result : goal.returns-clause-goes_on_after_its_result
unfolding opened_yield
returns-clause-goes_on_after_its_result c = source_runs source.goes_on_after_its_result [] 7 _ refl refl refl (runs (tree_of source.goes_on_after_its_result) [] 7)

pub returns-clause-puts : goal.returns-clause-puts
unfolding opened_yield
returns-clause-puts c = source_runs source.puts [] 3 _ refl refl refl (runs (tree_of source.puts) [] 3)
