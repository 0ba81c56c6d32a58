use Rattle.mdf_programs.proofs.ProgramRuns.{frames_stray_as_bodies}
use Rattle.mdf_programs.proofs.laws.frames_of_programs_stray_as_bodies.Goals as goal

pub returns : goal.returns
returns c = frames_stray_as_bodies
