use Rattle.std.proofs.Common.{◌-◌}
use Rattle.mdf_vm.specs.Runnings.{frame_of}
use Rattle.mdf_vm.specs.Internal.Turns.{InRun}
use Rattle.mdf_vm.specs.Results.{knows_of}
use Rattle.mdf_vm.proofs.running.Running.run.Given as goal

abbrev pub invariant-loop-spent : goal.invariant-loop-spent
invariant-loop-spent l =
    InRun (knows_of l.setting.results) (record { image = l.image; object = l.setting.object }) l.quantum (frame_of l.initial.self) l.spent (frame_of l.self)

abbrev pub decreases-loop-spent : goal.decreases-loop-spent
decreases-loop-spent l = l.quantum - l.spent
