use Rattle.mdf_core.proofs.Awaiting.{all_awaited}
use Rattle.mdf_core.proofs.laws.missing_values_are_awaited.Goals as goal

pub returns : goal.returns
returns c = all_awaited
