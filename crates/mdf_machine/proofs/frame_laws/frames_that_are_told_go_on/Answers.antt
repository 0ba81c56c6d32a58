use Rattle.mdf_machine.proofs.FrameLaws.{beaten_goes_on, called_goes_on, gave_goes_on, learnt_goes_on}
use Rattle.mdf_machine.proofs.frame_laws.frames_that_are_told_go_on.Goals as goal

pub returns-clause-called : goal.returns-clause-called
returns-clause-called c = called_goes_on

pub returns-clause-learnt : goal.returns-clause-learnt
returns-clause-learnt c = learnt_goes_on

pub returns-clause-gave : goal.returns-clause-gave
returns-clause-gave c = gave_goes_on

pub returns-clause-beaten : goal.returns-clause-beaten
returns-clause-beaten c = beaten_goes_on
