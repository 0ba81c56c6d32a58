use Rattle.mpl_lexer.proofs.Places.{stand_in_source, one_list}
use Rattle.mpl_lexer.proofs.laws.tokens_stand_in_their_source.Goals as goal

pub returns-clause-one : goal.returns-clause-one
returns-clause-one c = one_list

pub returns-clause-spans : goal.returns-clause-spans
returns-clause-spans c = stand_in_source
