use Rattle.mdf_core.proofs.ToldSo.{so}
use Rattle.mdf_core.proofs.laws.frames_are_told_what_is_so.Goals as goal

pub returns : goal.returns
returns c = so
