use Rattle.mdf_core.proofs.Fates.{gives_open, known_stays}
use Rattle.mdf_core.proofs.laws.results_become_known_once.Goals as goal

pub returns-clause-stays : goal.returns-clause-stays
returns-clause-stays c = known_stays

pub returns-clause-gives : goal.returns-clause-gives
returns-clause-gives c = gives_open
