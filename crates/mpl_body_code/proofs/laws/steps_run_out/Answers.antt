use Rattle.mpl_body_code.proofs.FallingSteps.{steps_fall}
use Rattle.mpl_body_code.proofs.laws.steps_run_out.Goals as goal

pub returns : goal.returns
returns c = steps_fall
