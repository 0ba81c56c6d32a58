use Rattle.std.proofs.Common.{[]}
use Rattle.mpl_mean.specs.SmallPrograms.CallPrograms as program
use Rattle.mpl_mean.proofs.SmallPrograms.OpenedBodies.{opened_yield, runs}
use Rattle.mpl_mean.proofs.worked.calls_have_their_yields.Goals as goal

pub returns-clause-sum_of_squares : goal.returns-clause-sum_of_squares
unfolding opened_yield
returns-clause-sum_of_squares c = runs program.sum_of_squares [] 5

pub returns-clause-a_turn_too_few : goal.returns-clause-a_turn_too_few
unfolding opened_yield
returns-clause-a_turn_too_few c = runs program.sum_of_squares [] 4

pub returns-clause-fib_of_ten : goal.returns-clause-fib_of_ten
unfolding opened_yield
returns-clause-fib_of_ten c = runs program.fib_of_ten [] 531

pub returns-clause-one_result_twice : goal.returns-clause-one_result_twice
unfolding opened_yield
returns-clause-one_result_twice c = runs program.one_result_twice [] 5

pub returns-clause-unforced_division : goal.returns-clause-unforced_division
unfolding opened_yield
returns-clause-unforced_division c = runs program.unforced_division [] 3

pub returns-clause-forced_division : goal.returns-clause-forced_division
unfolding opened_yield
returns-clause-forced_division c = runs program.forced_division [] 3

pub returns-clause-leftmost_trap_wins : goal.returns-clause-leftmost_trap_wins
unfolding opened_yield
returns-clause-leftmost_trap_wins c = runs program.leftmost_trap_wins [] 6

pub returns-clause-goes_on_after_its_result : goal.returns-clause-goes_on_after_its_result
unfolding opened_yield
returns-clause-goes_on_after_its_result c = runs program.goes_on_after_its_result [] 7
