use Rattle.std.proofs.Common.{◌≡◌, take}
use Rattle.mpl_mean.specs.Text.Lexemes.{value_of}
use Rattle.mpl_lexer.proofs.scan.number.Given as goal

-- the value of the digits so far
abbrev pub invariant-loop-digit : goal.invariant-loop-digit
invariant-loop-digit l = l.value ≡ value_of (take l.digit-index l.digits)
