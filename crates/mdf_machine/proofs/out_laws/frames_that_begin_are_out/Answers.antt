use Rattle.mdf_machine.proofs.OutLaws.{begins_out}
use Rattle.mdf_machine.proofs.out_laws.frames_that_begin_are_out.Goals as goal

pub returns : goal.returns
returns c = begins_out
