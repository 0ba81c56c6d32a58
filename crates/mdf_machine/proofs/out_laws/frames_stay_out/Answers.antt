use Rattle.mdf_machine.proofs.OutLaws.{stays_out}
use Rattle.mdf_machine.proofs.out_laws.frames_stay_out.Goals as goal

pub returns : goal.returns
returns c = stays_out
