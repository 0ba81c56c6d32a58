use Rattle.mdf_machine.proofs.FrameLaws.{halts_there}
use Rattle.mdf_machine.proofs.frame_laws.frames_stand_where_bodies_halt.Goals as goal

pub returns : goal.returns
returns c = halts_there
