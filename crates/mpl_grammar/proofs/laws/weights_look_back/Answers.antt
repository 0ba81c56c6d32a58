use Rattle.mpl_grammar.proofs.WeightLaws.{same-weight}
use Rattle.mpl_grammar.proofs.laws.weights_look_back.Goals as goal

pub returns : goal.returns
returns c = λ p q front t after other h k. same-weight p q front t after other h k
