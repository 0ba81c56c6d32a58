use Rattle.std.proofs.Common.{sym, ◌∙◌, arith}
use Rattle.mpl_lexer.proofs.Numbers.{word_of_wide}
use Rattle.mpl_lexer.proofs.scan.number.Goals as goal

pub returns-in_err-checked_mul : goal.returns-in_err-checked_mul
returns-in_err-checked_mul c =
    let wide = c.in_err-checked_mul.ensures in
    c.from_residual.ensures ∙ sym (word_of_wide c.args.digits.now c.loop-digit.digit-index (omega arith) (omega arith))

pub returns-in_err-value : goal.returns-in_err-value
returns-in_err-value c =
    let tens = c.in_ok-checked_mul.ensures in
    let wide = c.in_err-value.ensures in
    c.from_residual-in_err-value.ensures ∙ sym (word_of_wide c.args.digits.now c.loop-digit.digit-index (omega arith) (omega arith))
