use Rattle.std.proofs.Common.{refl}
use Rattle.std.specs.Fmt.{digits}
use Rattle.mdf_code.proofs.worked_bodies.code_calls_in_place.Goals as goal

pub returns-clause-sum_of_squares : goal.returns-clause-sum_of_squares
unfolding digits
returns-clause-sum_of_squares c = λ replies. refl

pub returns-clause-a_turn_too_few : goal.returns-clause-a_turn_too_few
unfolding digits
returns-clause-a_turn_too_few c = λ replies. refl

pub returns-clause-forwarded : goal.returns-clause-forwarded
unfolding digits
returns-clause-forwarded c = λ replies. refl

pub returns-clause-trapped : goal.returns-clause-trapped
unfolding digits
returns-clause-trapped c = λ replies. refl

pub returns-clause-square : goal.returns-clause-square
unfolding digits
returns-clause-square c = λ replies. refl
