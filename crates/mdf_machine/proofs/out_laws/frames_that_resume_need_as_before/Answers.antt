use Rattle.mdf_machine.proofs.OutLaws.{resumes_there}
use Rattle.mdf_machine.proofs.out_laws.frames_that_resume_need_as_before.Goals as goal

pub returns : goal.returns
returns c = resumes_there
