use Rattle.mdf_machine.proofs.OutLaws.{calls_there, stops_there}
use Rattle.mdf_machine.proofs.out_laws.frames_that_are_out_stop.Goals as goal

pub returns-clause-stops : goal.returns-clause-stops
returns-clause-stops c = stops_there

pub returns-clause-calls : goal.returns-clause-calls
returns-clause-calls c = calls_there
