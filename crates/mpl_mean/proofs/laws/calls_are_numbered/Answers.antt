use Rattle.mpl_mean.proofs.Numbers.{yield_numbers}
use Rattle.mpl_mean.proofs.laws.calls_are_numbered.Goals as goal

pub returns : goal.returns
returns c = yield_numbers
