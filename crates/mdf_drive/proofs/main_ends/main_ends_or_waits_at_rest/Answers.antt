use Rattle.mdf_drive.proofs.MainEnding.{ended_at_rest, main_rests}
use Rattle.mdf_drive.proofs.main_ends.main_ends_or_waits_at_rest.Goals as goal

pub returns-clause-last : goal.returns-clause-last
returns-clause-last c = ended_at_rest

pub returns-clause-rests : goal.returns-clause-rests
returns-clause-rests c = main_rests
