use Rattle.std.proofs.Common.{◌≡◌, ◌∙◌, true, sym, ap, subst, List}
use Rattle.std.specs.Option.{option_copied}
use Rattle.mdf_code.specs.Images.{is_guard_from}
use Rattle.mdf_code.specs.declared.instr.Instr.{Instr}
use Rattle.mdf_vm.proofs.GuardRuns.{sound_guard}
use Rattle.mdf_vm.proofs.guards.holds.Goals as goal

pub runs-requires-clause-sound : goal.runs-requires-clause-sound
runs-requires-clause-sound g c =
    subst (λ (code : List Instr). is_guard_from 0 code ≡ true) (sym c.as_slice-2.ensures)
    (sound_guard c.raw-raw.result.now c.args.entry c.in-Some.case.now c.in-Some-guard.guard c.raw-raw.ensures.image (sym c.get.ensures.value ∙ ap option_copied c.in-Some.is) c.in-Some-guard.is)
