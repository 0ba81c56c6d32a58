use Rattle.mdf_code.proofs.MoreSteps.{more_turns}
use Rattle.mdf_code.proofs.laws.more_turns_change_no_yield.Goals as goal

pub returns : goal.returns
returns c = more_turns
