use Rattle.mdf_vm.proofs.OnTheWay.{begins_the_way, comes_to_halt, goes_further}
use Rattle.mdf_vm.proofs.laws.frames_that_ran_out_may_run_again.Goals as goal

pub returns-clause-begins : goal.returns-clause-begins
returns-clause-begins c = begins_the_way

pub returns-clause-further : goal.returns-clause-further
returns-clause-further c = goes_further

pub returns-clause-halts : goal.returns-clause-halts
returns-clause-halts c = comes_to_halt
