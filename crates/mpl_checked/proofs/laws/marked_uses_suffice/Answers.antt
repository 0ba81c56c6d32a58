use Rattle.mpl_checked.proofs.AgreeBodies.{yields_so}
use Rattle.mpl_checked.proofs.Fitting.{bodies_fit}
use Rattle.mpl_checked.proofs.laws.marked_uses_suffice.Goals as goal

pub returns : goal.returns
returns c = λ p marks typed holds. yields_so p (bodies_fit p typed) marks holds
