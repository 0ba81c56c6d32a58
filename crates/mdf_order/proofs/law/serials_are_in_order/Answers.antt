use Rattle.mdf_order.proofs.InOrderSerials.{serials-rise, in-marked, serial-at-rank, serials-added, serials-inserted, serials-removed}
use Rattle.mdf_order.proofs.law.serials_are_in_order.Goals as goal

pub returns-clause-rising : goal.returns-clause-rising
returns-clause-rising c = serials-rise

pub returns-clause-marked : goal.returns-clause-marked
returns-clause-marked c = in-marked

pub returns-clause-ranked : goal.returns-clause-ranked
returns-clause-ranked c = serial-at-rank

pub returns-clause-added : goal.returns-clause-added
returns-clause-added c = serials-added

pub returns-clause-inserted : goal.returns-clause-inserted
returns-clause-inserted c = serials-inserted

pub returns-clause-removed : goal.returns-clause-removed
returns-clause-removed c = serials-removed
