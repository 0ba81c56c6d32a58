use Rattle.std.proofs.Common.{◌≡◌, length}
use Rattle.machine_tests.proofs.serials.Both.new.Given as goal

abbrev pub invariant-loop-serial : goal.invariant-loop-serial
invariant-loop-serial g l = length l.serials ≡ l.serial-counter
