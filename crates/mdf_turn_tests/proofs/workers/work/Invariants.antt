use Rattle.std.proofs.Common.{◌≡◌}
use Rattle.mdf_turn.specs.Prefixes.{StartsWith}
use Rattle.mdf_turn_tests.proofs.workers.work.Given as goal

abbrev pub invariant-loop-number : goal.invariant-loop-number
invariant-loop-number g l = (l.pass ≡ record l.initial.pass { seen = l.pass.seen }) × StartsWith l.pass.seen l.initial.pass.seen
