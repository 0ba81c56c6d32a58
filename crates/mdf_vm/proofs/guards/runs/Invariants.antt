use Rattle.std.proofs.Common.{◌≡◌, ◌-◌, ℕ, length}
use Rattle.std.specs.Prelude.{pos}
use Rattle.mdf_code.specs.Frames.{InGuard}
use Rattle.mdf_code.specs.Guards.{guard_frame, runs_guard}
use Rattle.mdf_code.specs.Parts.{text_at}
use Rattle.mdf_code.specs.declared.raw.RawImage.{RawImage}
use Rattle.mdf_vm.specs.Internal.Guarded.{guard_at}
use Rattle.mdf_vm.proofs.guards.runs.Given as goal

abbrev pub invariant-loop-step : goal.invariant-loop-step
invariant-loop-step g l =
    (image : RawImage) (entry : ℕ) → text_at image (InGuard entry) ≡ l.guard →
    runs_guard (length l.guard) (record { image = image; object = pos 0 }) (guard_frame entry (g.F.Formals.words l.formals) l.state)
    ≡ runs_guard (length l.guard - l._step) (record { image = image; object = pos 0 }) (guard_at (record { image = image; entry = entry; formals = g.F.Formals.words l.formals; state = l.state }) l.going)
