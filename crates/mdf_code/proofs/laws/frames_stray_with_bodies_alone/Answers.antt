use Rattle.mdf_code.proofs.AloneRuns.{strays_alone}
use Rattle.mdf_code.proofs.laws.frames_stray_with_bodies_alone.Goals as goal

pub returns : goal.returns
returns c = strays_alone
