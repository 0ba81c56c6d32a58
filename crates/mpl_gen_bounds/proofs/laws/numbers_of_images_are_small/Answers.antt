use Rattle.mpl_gen_bounds.proofs.SmallImages.{images_fit}
use Rattle.mpl_gen_bounds.proofs.laws.numbers_of_images_are_small.Goals as goal

pub returns : goal.returns
returns c = images_fit
