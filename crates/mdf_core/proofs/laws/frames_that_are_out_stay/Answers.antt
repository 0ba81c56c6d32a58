use Rattle.mdf_core.proofs.Running.{out_stays}
use Rattle.mdf_core.proofs.laws.frames_that_are_out_stay.Goals as goal

pub returns : goal.returns
returns c = out_stays
