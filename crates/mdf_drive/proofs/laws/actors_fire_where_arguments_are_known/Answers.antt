use Rattle.mdf_drive.proofs.Answering.{actors_fire, others_fire_not}
use Rattle.mdf_drive.proofs.laws.actors_fire_where_arguments_are_known.Goals as goal

pub returns-clause-actors : goal.returns-clause-actors
returns-clause-actors c = actors_fire

pub returns-clause-others : goal.returns-clause-others
returns-clause-others c = others_fire_not
