use Rattle.mpl_mean.proofs.InPlace.AloneInPlace.{in_place_is_alone}
use Rattle.mpl_mean.proofs.laws.calls_in_place_are_bodies_alone.Goals as goal

pub returns : goal.returns
returns c = in_place_is_alone
