use Rattle.mpl_lexer.proofs.Numbers.{digits_pass}
use Rattle.mpl_lexer.proofs.lexeme.number.Goals as goal

pub number-requires : goal.number-requires
number-requires c = digits_pass c.args.bytes.now c.digits_length.result c.digits_length.ensures
