use Rattle.mdf_code.proofs.RepliedYields.{beyond, stays_spent}
use Rattle.mdf_code.proofs.laws.spent_code_stays_spent.Goals as goal

pub returns-clause-beyond : goal.returns-clause-beyond
returns-clause-beyond c = beyond

pub returns-clause-stays_spent : goal.returns-clause-stays_spent
returns-clause-stays_spent c = stays_spent
