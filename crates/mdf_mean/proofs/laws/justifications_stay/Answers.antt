use Rattle.mdf_mean.proofs.Whole.{front_explained, stays_justified}
use Rattle.mdf_mean.proofs.laws.justifications_stay.Goals as goal

pub returns-clause-fronts : goal.returns-clause-fronts
returns-clause-fronts c = front_explained

pub returns-clause-entries : goal.returns-clause-entries
returns-clause-entries c = stays_justified
