use Rattle.mdf_programs.proofs.ProgramRuns.{rests_directly}
use Rattle.mdf_programs.proofs.laws.machines_at_rest_ran_directly.Goals as goal

pub returns : goal.returns
returns c = rests_directly
