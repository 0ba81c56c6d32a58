use Rattle.mdf_future.proofs.Opened.{has_opened}
use Rattle.mdf_future.proofs.law.ports_wait_for_what_is_passed.Goals as goal

pub returns : goal.returns
returns c = has_opened
