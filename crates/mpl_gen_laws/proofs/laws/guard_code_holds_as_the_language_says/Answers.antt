use Rattle.mpl_gen_laws.proofs.ClassChoices.{choices_same}
use Rattle.mpl_gen_laws.proofs.laws.guard_code_holds_as_the_language_says.Goals as goal

pub returns : goal.returns
returns c = choices_same
