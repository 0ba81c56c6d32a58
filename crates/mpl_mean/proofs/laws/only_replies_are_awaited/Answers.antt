use Rattle.mpl_mean.proofs.NeverWaits.{answered_never_waits, direct_never_waits, silent_makes_none, silent_never_waits}
use Rattle.mpl_mean.proofs.laws.only_replies_are_awaited.Goals as goal

pub returns-clause-answered : goal.returns-clause-answered
returns-clause-answered c = answered_never_waits

pub returns-clause-silent : goal.returns-clause-silent
returns-clause-silent c = silent_makes_none

pub returns-clause-never : goal.returns-clause-never
returns-clause-never c = silent_never_waits

pub returns-clause-direct : goal.returns-clause-direct
returns-clause-direct c = direct_never_waits
