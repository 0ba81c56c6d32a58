use Rattle.mdf_core.proofs.Staging.{fire_once}
use Rattle.mdf_core.proofs.laws.actors_fire_once.Goals as goal

pub returns : goal.returns
returns c = fire_once
