use Rattle.mdf_machine.proofs.FrameLaws.{begins_there}
use Rattle.mdf_machine.proofs.frame_laws.frames_begin_where_bodies_do.Goals as goal

pub returns : goal.returns
returns c = begins_there
