use Rattle.mdf_code.proofs.CountedSteps.{spent_counted, within_counted}
use Rattle.mdf_code.proofs.laws.code_counts_its_turns.Goals as goal

pub returns-clause-within : goal.returns-clause-within
returns-clause-within c = within_counted

pub returns-clause-spent : goal.returns-clause-spent
returns-clause-spent c = spent_counted
