use Rattle.mdf_code.proofs.ComingThrough.{comes_through}
use Rattle.mdf_code.proofs.laws.frames_come_through.Goals as goal

pub returns : goal.returns
returns c = comes_through
