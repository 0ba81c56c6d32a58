use Rattle.std.proofs.Common.{refl}
use Rattle.std.specs.Fmt.{digits}
use Rattle.mdf_code.proofs.worked_steps.places_are_reached.Goals as goal

pub returns-clause-print : goal.returns-clause-print
unfolding digits
returns-clause-print c = refl
