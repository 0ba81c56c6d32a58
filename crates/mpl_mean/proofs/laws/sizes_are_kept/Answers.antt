use Rattle.mpl_mean.proofs.Sizes.SizedYields.{sizes_kept}
use Rattle.mpl_mean.proofs.laws.sizes_are_kept.Goals as goal

pub returns : goal.returns
returns c = sizes_kept
