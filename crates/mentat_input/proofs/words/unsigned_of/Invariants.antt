use Rattle.std.proofs.Common.{◌≡◌, ◌<◌, ◌^◌, take}
use Rattle.mentat_input.specs.Words.{value_of}
use Rattle.mentat_input.proofs.words.unsigned_of.Given as goal

-- the value of the digits so far
abbrev pub invariant-loop-digit : goal.invariant-loop-digit
invariant-loop-digit l = record {
  fits : l.value < 2 ^ 64;
  value : l.value ≡ value_of (take l.digit-index l.digits);
}
