use Rattle.std.proofs.Common.{refl}
use Rattle.std.specs.Fmt.{digits}
use Rattle.mdf_code.proofs.worked_bodies.code_spends_turns.Goals as goal

pub returns-clause-counts_down : goal.returns-clause-counts_down
unfolding digits
returns-clause-counts_down c = λ replies. refl

pub returns-clause-doubles : goal.returns-clause-doubles
unfolding digits
returns-clause-doubles c = λ replies. refl

pub returns-clause-endless : goal.returns-clause-endless
unfolding digits
returns-clause-endless c = λ replies. refl
