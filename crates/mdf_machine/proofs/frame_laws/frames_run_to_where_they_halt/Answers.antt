use Rattle.mdf_machine.proofs.FrameLaws.{runs_there}
use Rattle.mdf_machine.proofs.frame_laws.frames_run_to_where_they_halt.Goals as goal

pub returns : goal.returns
returns c = runs_there
