use Rattle.mpl_mean.specs.TypeRules.Rules.{failures}
use Rattle.mpl_mean.proofs.LeastRefusal.LeastFailure.{least_found, least_first, least_none, none_least}
use Rattle.mpl_mean.proofs.laws.refusals_are_least.Goals as goal

pub returns-clause-fails : goal.returns-clause-fails
returns-clause-fails c = λ p f e. least_found (failures p) f e

pub returns-clause-least : goal.returns-clause-least
returns-clause-least c = λ p f number at e h. least_first (failures p) f number at e h

pub returns-clause-typed : goal.returns-clause-typed
returns-clause-typed c = λ p. (none_least (failures p), least_none (failures p))
