use Rattle.mdf_mean.proofs.Whole.{bodies_grow, starts_stay}
use Rattle.mdf_mean.proofs.laws.bodies_stay.Goals as goal

pub returns-clause-starts : goal.returns-clause-starts
returns-clause-starts c = starts_stay

pub returns-clause-grow : goal.returns-clause-grow
returns-clause-grow c = λ s later front law e. bodies_grow s law later front e
