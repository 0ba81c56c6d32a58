use Rattle.mdf_core.proofs.Timely.{arcs_are_due}
use Rattle.mdf_core.proofs.laws.arcs_are_due_when_results_are_known.Goals as goal

pub returns : goal.returns
returns c = arcs_are_due
