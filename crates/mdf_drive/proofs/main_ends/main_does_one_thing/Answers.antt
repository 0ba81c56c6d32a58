use Rattle.mdf_drive.proofs.MainEnding.{main_did_one, main_waits}
use Rattle.mdf_drive.proofs.main_ends.main_does_one_thing.Goals as goal

pub returns-clause-waits : goal.returns-clause-waits
returns-clause-waits c = main_waits

pub returns-clause-one : goal.returns-clause-one
returns-clause-one c = main_did_one
