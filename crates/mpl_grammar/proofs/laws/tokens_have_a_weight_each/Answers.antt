use Rattle.mpl_grammar.proofs.WeightLaws.{length-weights}
use Rattle.mpl_grammar.proofs.laws.tokens_have_a_weight_each.Goals as goal

pub returns : goal.returns
returns c = λ p tokens h. length-weights p tokens h
