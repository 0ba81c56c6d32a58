use Rattle.std.proofs.Common.{◌*◌, ◌+◌}
use Rattle.mpl_folds.proofs.fold.+chain.Given as goal

abbrev pub decreases-chain : goal.decreases-chain
decreases-chain g l = 2 * l.operators

abbrev pub decreases-longer : goal.decreases-longer
decreases-longer g l = 2 * l.operators + 1
