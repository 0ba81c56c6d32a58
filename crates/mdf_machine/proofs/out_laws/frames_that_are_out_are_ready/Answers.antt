use Rattle.mdf_machine.proofs.ReadyFrames.{awaits_there, ends_there, ready_there}
use Rattle.mdf_machine.proofs.out_laws.frames_that_are_out_are_ready.Goals as goal

pub returns-clause-ready : goal.returns-clause-ready
returns-clause-ready c = ready_there

pub returns-clause-awaits : goal.returns-clause-awaits
returns-clause-awaits c = awaits_there

pub returns-clause-ends : goal.returns-clause-ends
returns-clause-ends c = ends_there
