use Rattle.std.proofs.Common.{sym, ◌∙◌, arith}
use Rattle.mentat_input.proofs.DigitLemmas.{unsigned_of_fits, unsigned_of_wide}
use Rattle.mentat_input.proofs.words.unsigned_of.Goals as goal

pub returns-in_err-checked_mul : goal.returns-in_err-checked_mul
returns-in_err-checked_mul c =
    let wide = c.in_err-checked_mul.ensures in
    c.from_residual.ensures ∙ sym (unsigned_of_wide c.args.digits.now c.loop-digit.digit-index (omega arith) (omega arith))

pub returns-in_err-value : goal.returns-in_err-value
returns-in_err-value c =
    let tens = c.in_ok-checked_mul.ensures in
    let wide = c.in_err-value.ensures in
    c.from_residual-in_err-value.ensures ∙ sym (unsigned_of_wide c.args.digits.now c.loop-digit.digit-index (omega arith) (omega arith))

pub returns : goal.returns
returns c = unsigned_of_fits c.args.digits.now c.loop-digit.digit-index c.loop-digit.value (omega arith) c.loop-digit.invariant.value c.loop-digit.invariant.fits
