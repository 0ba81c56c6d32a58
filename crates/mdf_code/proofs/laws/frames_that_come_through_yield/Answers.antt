use Rattle.mdf_code.proofs.YieldingThrough.{yields_through}
use Rattle.mdf_code.proofs.laws.frames_that_come_through_yield.Goals as goal

pub returns : goal.returns
returns c = yields_through
