use Rattle.mdf_code.proofs.MoreSteps.{one_yield}
use Rattle.mdf_code.proofs.laws.code_has_one_yield.Goals as goal

pub returns : goal.returns
returns c = one_yield
