-- Whether a guard holds.
use Rattle.std.specs.Prelude.{ℕ, zero, suc, Bool, true, false, not, nat_le, List, [], ◌∷◌, map, length, slice_get, Option, Some, None, if◌then◌else◌, ℤ, pos}
use Rattle.std.specs.Ordering.{int_eq}
use Rattle.mpl_value.specs.declared.body.Arg.{Arg}
use Rattle.mpl_value.specs.declared.body.Arg.TheVariants.{Know}
use Rattle.mdf_code.specs.declared.instr.Instr.{Instr}
use Rattle.mdf_code.specs.declared.raw.RawEntry.{RawEntry}
use Rattle.mdf_code.specs.declared.raw.RawImage.{RawImage}
use Rattle.mdf_code.specs.Frames.{Around, InGuard, Frame, Next, Goes, Spends, Stops}
use Rattle.mdf_code.specs.Parts.{text_at}
use Rattle.mdf_code.specs.Steps.{does, or_strays}
use Rattle.mdf_code.specs.Yields.{in_place}

-- the most words on a guard's stack
abbrev pub most_guard_words : ℕ
most_guard_words = 128

-- one word other than 0
abbrev pub holds_at_end : List ℤ → Bool
holds_at_end [] = false
holds_at_end (word ∷ []) = not (int_eq word (pos 0))
holds_at_end (word ∷ other ∷ words) = false

abbrev pub goes_within : (Frame Arg → Bool) → Next Arg → Bool
goes_within again (Goes f) = if nat_le (length f.words) most_guard_words then again f else false
goes_within again (Spends f) = false
goes_within again (Stops stop f) = false

-- one step of a guard, which ends behind its last instruction
abbrev pub guard_step : (Frame Arg → Bool) → Around → Option Instr → Frame Arg → Bool
guard_step again x None f = holds_at_end f.words
guard_step again x (Some instruction) f = goes_within again (or_strays f (does in_place x instruction f))

-- A guard doesn't hold where it traps or strays. Its jumps go forward alone, so it takes no more steps than it has
-- instructions.
abbrev pub runs_guard : ℕ → Around → Frame Arg → Bool
runs_guard zero x f = holds_at_end f.words
runs_guard (suc fuel) x f = guard_step (runs_guard fuel x) x (slice_get (text_at x.image f.code) f.place) f

-- the frame of an entry's guard, with these words in the formals, and the words of the object's state
abbrev pub guard_frame : ℕ → List (List ℤ) → List ℤ → Frame Arg
guard_frame entry formals state = record {
  code = InGuard entry;
  place = 0;
  words = [];
  flows = [];
  variables = map Know formals;
  callers = [];
  state = state;
  input = [];
  lines = [];
  replied = false;
}

abbrev pub entry_holds : RawImage → ℕ → List (List ℤ) → List ℤ → Option RawEntry → Bool
entry_holds image entry formals state None = false
entry_holds image entry formals state (Some e) = guard_holds e.guard where
  guard_holds : Option (List Instr) → Bool
  guard_holds None = true
  guard_holds (Some guard) = runs_guard (length guard) (record { image = image; object = pos 0 }) (guard_frame entry formals state)

-- An entry holds where it has no guard or its guard holds.
abbrev pub holds : RawImage → ℕ → List (List ℤ) → List ℤ → Bool
holds image entry formals state = entry_holds image entry formals state (slice_get image.entries entry)
