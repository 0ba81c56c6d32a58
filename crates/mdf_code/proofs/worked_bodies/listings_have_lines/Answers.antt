use Rattle.std.proofs.Common.{refl}
use Rattle.std.specs.Fmt.{digits}
use Rattle.mdf_code.proofs.worked_bodies.listings_have_lines.Goals as goal

pub returns-clause-nothing : goal.returns-clause-nothing
unfolding digits
returns-clause-nothing c = refl

pub returns-clause-squares : goal.returns-clause-squares
unfolding digits
returns-clause-squares c = refl
