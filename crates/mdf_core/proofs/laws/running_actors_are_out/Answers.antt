use Rattle.mdf_core.proofs.Running.{out_runs}
use Rattle.mdf_core.proofs.laws.running_actors_are_out.Goals as goal

pub returns : goal.returns
returns c = out_runs
