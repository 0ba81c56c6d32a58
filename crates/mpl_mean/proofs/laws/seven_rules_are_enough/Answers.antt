use Rattle.mpl_mean.proofs.SevenRules.FirstPrograms.{first_form_failures}
use Rattle.mpl_mean.proofs.laws.seven_rules_are_enough.Goals as goal

pub returns : goal.returns
returns c = λ p h. first_form_failures p h
