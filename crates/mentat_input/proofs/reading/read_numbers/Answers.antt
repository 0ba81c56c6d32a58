use Rattle.std.proofs.Common.{Ok, inl, inr, subst, arith}
use Rattle.mentat_input.specs.Internal.Taken.{HasNumbers}
use Rattle.mentat_input.proofs.reading.read_numbers.Goals as goal

pub returns-then-len-gt-BYTE_LIMIT-clause-answer : goal.returns-then-len-gt-BYTE_LIMIT-clause-answer
returns-then-len-gt-BYTE_LIMIT-clause-answer g c =
    (c.in_ok-bytes.bytes, c.in_ok-bytes.ensures.read, inl (omega arith))

pub returns-then-len-gt-NUMBER_LIMIT-clause-answer : goal.returns-then-len-gt-NUMBER_LIMIT-clause-answer
returns-then-len-gt-NUMBER_LIMIT-clause-answer g c = (
  c.in_ok-bytes.bytes,
  c.in_ok-bytes.ensures.read,
  inr (record { numbers = c.in_ok-numbers.numbers; are = subst (λ bytes. HasNumbers bytes (Ok c.in_ok-numbers.numbers)) c.as_slice.ensures c.in_ok-numbers.ensures; many = omega arith }),
)

pub returns-clause-answer : goal.returns-clause-answer
returns-clause-answer g c = (
  c.in_ok-bytes.bytes,
  c.in_ok-bytes.ensures.read,
  (omega arith, subst (λ bytes. HasNumbers bytes (Ok c.in_ok-numbers.numbers)) c.as_slice.ensures c.in_ok-numbers.ensures, omega arith),
)
