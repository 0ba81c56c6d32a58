use Rattle.mdf_drive.proofs.Spending.{over_is_spent}
use Rattle.mdf_drive.proofs.laws.logs_over_the_budget_are_spent.Goals as goal

pub returns : goal.returns
returns c = over_is_spent
