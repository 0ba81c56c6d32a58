use Rattle.mdf_code.proofs.SeenSteps.{framed_seen}
use Rattle.mdf_code.proofs.laws.frames_step_as_they_are_seen.Goals as goal

pub returns : goal.returns
returns c = framed_seen
