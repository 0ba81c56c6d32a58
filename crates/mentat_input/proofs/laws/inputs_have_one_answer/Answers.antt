use Rattle.mentat_input.proofs.OneAnswer.{one_answer}
use Rattle.mentat_input.proofs.laws.inputs_have_one_answer.Goals as goal

pub returns : goal.returns
returns c = one_answer
