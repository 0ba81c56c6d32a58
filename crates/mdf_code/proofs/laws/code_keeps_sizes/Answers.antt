use Rattle.mdf_code.proofs.FittingRuns.{yields_fit}
use Rattle.mdf_code.proofs.laws.code_keeps_sizes.Goals as goal

pub returns : goal.returns
returns c = yields_fit
