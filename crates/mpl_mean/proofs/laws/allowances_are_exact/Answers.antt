use Rattle.mpl_mean.proofs.Allowance.ExactYields.{turns_spent, turns_within}
use Rattle.mpl_mean.proofs.Allowance.MoreAllowance.{calls_shared, creations_shared, spent_beyond, stays_spent}
use Rattle.mpl_mean.proofs.laws.allowances_are_exact.Goals as goal

pub returns-clause-within : goal.returns-clause-within
returns-clause-within c = turns_within

pub returns-clause-spent : goal.returns-clause-spent
returns-clause-spent c = turns_spent

pub returns-clause-beyond : goal.returns-clause-beyond
returns-clause-beyond c = spent_beyond

pub returns-clause-stays_spent : goal.returns-clause-stays_spent
returns-clause-stays_spent c = stays_spent

pub returns-clause-calls : goal.returns-clause-calls
returns-clause-calls c = calls_shared

pub returns-clause-creations : goal.returns-clause-creations
returns-clause-creations c = creations_shared
