use Rattle.mdf_core.proofs.UnnamedActors.{stays_out}
use Rattle.mdf_core.proofs.laws.unnamed_actors_stay_out.Goals as goal

pub returns : goal.returns
returns c = stays_out
