use Rattle.mpl_mean.proofs.TokensAreFew.TokenCount.{few_from}
use Rattle.mpl_mean.proofs.laws.tokens_are_few.Goals as goal

pub returns : goal.returns
returns c = λ source tokens e. few_from 0 0 1 source tokens e
