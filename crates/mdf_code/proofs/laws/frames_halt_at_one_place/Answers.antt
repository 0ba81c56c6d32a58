use Rattle.mdf_code.proofs.OneHalt.{one_halt}
use Rattle.mdf_code.proofs.laws.frames_halt_at_one_place.Goals as goal

pub returns : goal.returns
returns c = one_halt
