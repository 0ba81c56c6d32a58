use Rattle.mdf_code.proofs.Halting.{halts_first, halts_on_told}
use Rattle.mdf_code.proofs.laws.frames_of_images_halt.Goals as goal

pub returns-clause-starts : goal.returns-clause-starts
returns-clause-starts c = halts_first

pub returns-clause-goes_on : goal.returns-clause-goes_on
returns-clause-goes_on c = halts_on_told
