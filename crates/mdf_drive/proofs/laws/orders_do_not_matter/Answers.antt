use Rattle.mdf_drive.proofs.Orders.{same_run, turns_not_more}
use Rattle.mdf_drive.proofs.laws.orders_do_not_matter.Goals as goal

pub returns-clause-same : goal.returns-clause-same
returns-clause-same c = same_run

pub returns-clause-within : goal.returns-clause-within
returns-clause-within c = turns_not_more
