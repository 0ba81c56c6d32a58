use Rattle.std.proofs.Common.{◌≡◌}
use Rattle.std.specs.FinMap.{get}
use Rattle.std.specs.Prelude.{IsSome}
use Rattle.machine_tests.proofs.Fates.{fate_of}
use Rattle.machine_tests.proofs.futures.wait_all.Given as goal

abbrev pub invariant-loop-consumer : goal.invariant-loop-consumer
invariant-loop-consumer l =
    IsSome (get l.futures.results l.on) × (fate_of l.futures l.on ≡ fate_of l.initial.futures l.on)
