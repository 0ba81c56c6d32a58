use Rattle.mdf_core.proofs.EndedLogs.{goes, stays}
use Rattle.mdf_core.proofs.laws.ended_logs_stay.Goals as goal

pub returns-clause-goes : goal.returns-clause-goes
returns-clause-goes c = goes

pub returns-clause-stays : goal.returns-clause-stays
returns-clause-stays c = stays
