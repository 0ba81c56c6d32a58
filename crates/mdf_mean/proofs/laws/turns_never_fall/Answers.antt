use Rattle.mdf_mean.proofs.Whole.{none_spent, not_over, turns_grow}
use Rattle.mdf_mean.proofs.laws.turns_never_fall.Goals as goal

pub returns-clause-grow : goal.returns-clause-grow
returns-clause-grow c = λ s later front law e. turns_grow s law later front e

pub returns-clause-calm : goal.returns-clause-calm
returns-clause-calm c = λ s later front law e. none_spent s law later front e

pub returns-clause-within : goal.returns-clause-within
returns-clause-within c = not_over
