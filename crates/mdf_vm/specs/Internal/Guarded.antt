-- A guard on its way.
use Rattle.std.specs.Prelude.{◌≡◌, ℕ, Bool, false, if◌then◌else◌, List, ℤ, pos, Option}
use Rattle.mpl_value.specs.declared.body.Arg.{Arg}
use Rattle.mdf_code.specs.declared.instr.Instr.{Instr}
use Rattle.mdf_code.specs.declared.raw.RawImage.{RawImage}
use Rattle.mdf_code.specs.Frames.{Around, Frame, Next}
use Rattle.mdf_code.specs.Guards.{goes_within, guard_frame}
use Rattle.mdf_code.specs.Steps.{does, or_strays}
use Rattle.mdf_code.specs.Yields.{in_place}
use Rattle.mdf_vm.specs.declared.guarding.Guarding.{Guarding}

-- what a guard looks at: its image, the number of its entry, the words of the formals, and those of the state
pub record Looks : Type 0 where
  pub image : RawImage
  pub entry : ℕ
  pub formals : List (List ℤ)
  pub state : List ℤ

abbrev pub guard_around : Looks → Around
guard_around l = record { image = l.image; object = pos 0 }

abbrev pub guard_at : Looks → Guarding → Frame Arg
guard_at l g = record (guard_frame l.entry l.formals l.state) { place = g.place; words = g.words }

-- the guard goes on there, or doesn't hold
abbrev pub GoesIf : Bool → Option (Next Arg) → Frame Arg → Frame Arg → Type 0
GoesIf goes next before after = (again : Frame Arg → Bool) → goes_within again (or_strays before next) ≡ (if goes then again after else false)

-- what came of an instruction
abbrev pub GuardDid : Looks → Instr → Guarding → Bool → Guarding → Type 0
GuardDid l instruction before goes after =
    GoesIf goes (does in_place (guard_around l) instruction (guard_at l before)) (guard_at l before) (guard_at l after)
