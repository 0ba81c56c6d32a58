-- The steps of a guard.
use Rattle.std.proofs.Common.{◌≡◌, ◌<◌, ◌+◌, ◌-◌, ℕ, zero, suc, Bool, true, false, List, Option, Some, None, cond, refl, ap, sym, subst, ◌∙◌, arith}
use Rattle.std.specs.Prelude.{slice_get}
use Rattle.mdf_code.specs.declared.instr.Instr.{Instr}
use Rattle.mdf_code.specs.Frames.{InGuard}
use Rattle.mdf_code.specs.Guards.{guard_step, holds_at_end, runs_guard}
use Rattle.mdf_code.specs.Images.{guard_fits, is_entry, is_guard_from, is_image}
use Rattle.mdf_code.specs.Parts.{text_at}
use Rattle.mdf_code.specs.declared.raw.RawEntry.{RawEntry}
use Rattle.mdf_code.specs.declared.raw.RawImage.{RawImage}
use Rattle.mdf_code.proofs.Passing.{found, parts}
use Rattle.mdf_vm.specs.Internal.Guarded.{GuardDid, Looks, guard_around, guard_at}
use Rattle.mdf_vm.specs.declared.guarding.Guarding.{Guarding}

pub took : (l : Looks) (i j : Instr) (before after : Guarding) (goes : Bool) → i ≡ j → GuardDid l j before goes after → GuardDid l i before goes after
took l i j before after goes is did = subst (λ (k : Instr). GuardDid l k before goes after) (sym is) did

-- one step
pub guard_turn : (l : Looks) (guard : List Instr) (fuel : ℕ) (i : Instr) (before after : Guarding) (goes : Bool) → text_at l.image (InGuard l.entry) ≡ guard → slice_get guard before.place ≡ Some i → GuardDid l i before goes after →
    runs_guard (suc fuel) (guard_around l) (guard_at l before) ≡ cond goes (runs_guard fuel (guard_around l) (guard_at l after)) false
guard_turn l guard fuel i before after goes text is did =
    ap (λ (o : Option Instr). guard_step (runs_guard fuel (guard_around l)) (guard_around l) o (guard_at l before)) (ap (λ (t : List Instr). slice_get t before.place) text ∙ is) ∙ did (runs_guard fuel (guard_around l))

-- the end
pub guard_end : (l : Looks) (guard : List Instr) (fuel : ℕ) (g : Guarding) → text_at l.image (InGuard l.entry) ≡ guard → slice_get guard g.place ≡ None → runs_guard fuel (guard_around l) (guard_at l g) ≡ holds_at_end g.words
guard_end l guard zero g text is = refl
guard_end l guard (suc fuel) g text is =
    ap (λ (o : Option Instr). guard_step (runs_guard fuel (guard_around l)) (guard_around l) o (guard_at l g)) (ap (λ (t : List Instr). slice_get t g.place) text ∙ is)

pub more_left : (count step : ℕ) → step < count → count - step ≡ suc (count - (step + 1))
more_left count step h = omega (arith, h)

-- the guards of an image are sound
pub sound_guard : (image : RawImage) (entry : ℕ) (e : RawEntry) (guard : List Instr) → is_image image ≡ true → slice_get image.entries entry ≡ Some e → e.guard ≡ Some guard → is_guard_from 0 guard ≡ true
sound_guard image entry e guard sound there is =
    subst (λ (o : Option (List Instr)). guard_fits o ≡ true) is (found is_entry image.entries entry e (parts image sound).entries there)
