use Rattle.mdf_mean.specs.Ran.{bodies}
use Rattle.mdf_mean.proofs.Decided.{explained_is, is_explained_so, is_may, may_is}
use Rattle.mdf_mean.proofs.DecidedClosed.{closed_is, is_closed_so}
use Rattle.mdf_mean.proofs.laws.tests_decide.Goals as goal

pub returns-clause-justified : goal.returns-clause-justified
returns-clause-justified c = λ s h e. (may_is s.meaning (bodies s h) h e, is_may s.meaning (bodies s h) h e)

pub returns-clause-explained : goal.returns-clause-explained
returns-clause-explained c = λ s h. (explained_is s h, is_explained_so s h)

pub returns-clause-closed : goal.returns-clause-closed
returns-clause-closed c = λ s h. (closed_is s.meaning (bodies s h) h, is_closed_so s.meaning (bodies s h) h)
