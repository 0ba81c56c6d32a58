use Rattle.std.proofs.Common.{◌≤◌}
use Rattle.machine_tests.proofs.serials.Both.assert_alike.Given as goal

abbrev pub invariant-loop-serial : goal.invariant-loop-serial
invariant-loop-serial g l = l.place ≤ l.serial
