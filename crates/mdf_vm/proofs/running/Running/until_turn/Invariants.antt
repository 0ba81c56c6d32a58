use Rattle.std.proofs.Common.{◌≡◌}
use Rattle.mdf_code.specs.Parts.{text_at}
use Rattle.mdf_vm.specs.Places.{code_of}
use Rattle.mdf_vm.specs.Runnings.{frame_of}
use Rattle.mdf_vm.specs.Internal.Turns.{GoesOn}
use Rattle.mdf_vm.specs.Results.{knows_of}
use Rattle.mdf_vm.proofs.Nearness.{nearness}
use Rattle.mdf_vm.proofs.running.Running.until_turn.Given as goal

abbrev pub invariant-loop-self : goal.invariant-loop-self
invariant-loop-self l =
    GoesOn (knows_of l.setting.results) (record { image = l.image; object = l.setting.object }) (frame_of l.initial.self) (frame_of l.self)
    × (l.text ≡ text_at l.image (code_of l.self.code))

abbrev pub decreases-loop-self : goal.decreases-loop-self
decreases-loop-self l = nearness l.image (frame_of l.self)
