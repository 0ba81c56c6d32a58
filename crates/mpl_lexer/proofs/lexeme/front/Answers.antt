use Rattle.std.proofs.Common.{sym, subst, arith}
use Rattle.mpl_lexer.specs.Lexing.{IsFound}
use Rattle.mpl_lexer.proofs.Words.{lexeme_of_word}
use Rattle.mpl_lexer.proofs.lexeme.front.Goals as goal

pub returns-then-is_letter : goal.returns-then-is_letter
returns-then-is_letter c =
    let there = lexeme_of_word c.args.bytes.now (omega arith) (sym c.if-is_blank.ensures) (sym c.if-starts_with.ensures.value) (sym c.if-starts_with-2.ensures.value) (sym c.if-is_letter.ensures) in
    subst (IsFound c.args.at c.word.result) (sym there) c.word.ensures
