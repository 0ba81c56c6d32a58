use Rattle.std.proofs.Common.{◌≡◌, map, take, pos}
use Rattle.mdf_code.proofs.text.words.Given as goal

abbrev pub invariant-loop-operand : goal.invariant-loop-operand
invariant-loop-operand l = l.words ≡ map (λ n. pos n) (take l.operand-index l.operands)
