use Rattle.std.proofs.Common.{refl}
use Rattle.std.specs.Fmt.{digits}
use Rattle.mdf_code.proofs.worked_bodies.code_traps.Goals as goal

pub returns-clause-index : goal.returns-clause-index
unfolding digits
returns-clause-index c = λ replies. refl

pub returns-clause-element : goal.returns-clause-element
unfolding digits
returns-clause-element c = λ replies. refl

pub returns-clause-no_input : goal.returns-clause-no_input
unfolding digits
returns-clause-no_input c = λ replies. refl

pub returns-clause-input : goal.returns-clause-input
unfolding digits
returns-clause-input c = λ replies. refl

pub returns-clause-no_reply : goal.returns-clause-no_reply
unfolding digits
returns-clause-no_reply c = λ replies. refl

pub returns-clause-twice : goal.returns-clause-twice
unfolding digits
returns-clause-twice c = λ replies. refl

pub returns-clause-overflow : goal.returns-clause-overflow
unfolding digits
returns-clause-overflow c = λ replies. refl

pub returns-clause-unbound : goal.returns-clause-unbound
unfolding digits
returns-clause-unbound c = λ replies. refl
