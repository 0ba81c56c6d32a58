use Rattle.std.proofs.Common.{length}
use Rattle.mdf_future.proofs.futures.Futures.+open_from.Given as goal

abbrev pub decreases-open_from : goal.decreases-open_from
decreases-open_from l = length l.ports.now
