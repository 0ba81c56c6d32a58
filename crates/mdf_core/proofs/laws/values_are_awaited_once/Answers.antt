use Rattle.mdf_core.proofs.Once.{once}
use Rattle.mdf_core.proofs.laws.values_are_awaited_once.Goals as goal

pub returns : goal.returns
returns c = once
