use Rattle.mdf_drive.proofs.DirectRun.{direct_run}
use Rattle.mdf_drive.proofs.laws.logs_at_rest_are_the_direct_run.Goals as goal

pub returns : goal.returns
returns c = direct_run
