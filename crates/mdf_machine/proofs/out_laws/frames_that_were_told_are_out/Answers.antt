use Rattle.mdf_machine.proofs.OutLaws.{beaten_out, called_out, gave_out, learnt_out}
use Rattle.mdf_machine.proofs.out_laws.frames_that_were_told_are_out.Goals as goal

pub returns-clause-called : goal.returns-clause-called
returns-clause-called c = called_out

pub returns-clause-gave : goal.returns-clause-gave
returns-clause-gave c = gave_out

pub returns-clause-beaten : goal.returns-clause-beaten
returns-clause-beaten c = beaten_out

pub returns-clause-learnt : goal.returns-clause-learnt
returns-clause-learnt c = learnt_out
