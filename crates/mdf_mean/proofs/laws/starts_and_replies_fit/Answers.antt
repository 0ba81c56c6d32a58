use Rattle.mdf_mean.proofs.Whole.{starts_fit}
use Rattle.mdf_mean.proofs.laws.starts_and_replies_fit.Goals as goal

pub returns : goal.returns
returns c = λ s h law e. starts_fit s law h e
