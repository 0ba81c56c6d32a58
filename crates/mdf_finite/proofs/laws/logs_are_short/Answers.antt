use Rattle.mdf_finite.proofs.ShortLogs.{short}
use Rattle.mdf_finite.proofs.laws.logs_are_short.Goals as goal

pub returns : goal.returns
returns c = short
