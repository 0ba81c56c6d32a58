use Rattle.mdf_core.proofs.Staging.{as_statuses_say}
use Rattle.mdf_core.proofs.laws.actors_are_as_their_statuses_say.Goals as goal

pub returns : goal.returns
returns c = as_statuses_say
