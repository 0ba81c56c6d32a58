-- With no fewer steps a frame alone halts where it did.
use Rattle.std.proofs.Common.{◌≡◌, ◌≤◌, ◌+◌, ◌==◌, ℕ, zero, suc, Bool, true, false, cond, List, [], ◌∷◌, Option, Some, None, refl, sym, ap, ◌∙◌, arith}
use Rattle.mpl_value.specs.declared.body.Arg.{Arg}
use Rattle.mpl_value.specs.declared.body.BodyStart.{BodyStart}
use Rattle.mdf_code.specs.declared.raw.RawImage.{RawImage}
use Rattle.mdf_code.specs.Alone.{Held, framed}
use Rattle.mdf_code.specs.Frames.{Around, Frame, Next, Goes, Spends, Stops}
use Rattle.mdf_code.specs.Stacks.{given}
use Rattle.mdf_code.specs.Steps.{step}
use Rattle.mdf_code.specs.Told.{Alone, Beats, HaltsNext, Stood, Told, after, around_start, behind, most_turns, next_within, run, runs_on}

-- what the first comes to the second comes to
abbrev IsKept : {A : Type 0} → Option A → Option A → Type 0
IsKept {A} first second = (a : A) → first ≡ Some a → second ≡ Some a

given_kept : {A B : Type 0} (first second : Option A) (f g : A → Option B) → IsKept first second → ((a : A) → IsKept (f a) (g a)) → IsKept (given first f) (given second g)
given_kept None second f g kept each b h = absurd (cc h)
given_kept (Some a) second f g kept each b h = ap (λ o. given o g) (kept a refl) ∙ each a b h

if_kept : (t : Bool) (a : Option Stood) (first second : Option Stood) → IsKept first second → IsKept (cond t a first) (cond t a second)
if_kept true a first second kept s h = h
if_kept false a first second kept s h = kept s h

after_kept : (first second : ℕ → Frame Held → Option Stood) (quantum turns : ℕ) (next : Next Held) → ((n : ℕ) (f : Frame Held) → IsKept (first n f) (second n f)) →
    IsKept (after first quantum turns next) (after second quantum turns next)
after_kept first second quantum turns (Goes f) kept s h = kept turns f s h
after_kept first second quantum turns (Spends f) kept s h =
    if_kept (turns + 1 == quantum) (Some (record { halt = Beats; turns = turns + 1; frame = f })) (first (turns + 1) f) (second (turns + 1) f) (kept (turns + 1) f) s h
after_kept first second quantum turns (Stops stop f) kept s h = h

run_kept : (k l : ℕ) → k ≤ l → (knows : ℕ → Arg) (x : Around) (quantum turns : ℕ) (f : Frame Held) → IsKept (run k knows x quantum turns f) (run l knows x quantum turns f)
run_kept zero l longer knows x quantum turns f s h = absurd (cc h)
run_kept (suc k) zero longer knows x quantum turns f s h = absurd (omega arith)
run_kept (suc k) (suc l) longer knows x quantum turns f s h =
    after_kept (run k knows x quantum) (run l knows x quantum) quantum turns (step (framed knows) x f) (run_kept k l (omega arith) knows x quantum) s h

pub runs_on_kept : (k l : ℕ) → k ≤ l → (image : RawImage) (start : BodyStart) (a : Alone) → IsKept (runs_on k image start a) (runs_on l image start a)
runs_on_kept k l longer image start a = run_kept k l longer a.knows (around_start image start) most_turns 0 a.frame

pub behind_kept : (k l : ℕ) → k ≤ l → (image : RawImage) (start : BodyStart) (told : List Told) → IsKept (behind k image start told) (behind l image start told)
behind_kept k l longer image start [] a h = h
behind_kept k l longer image start (t ∷ before) a h =
    given_kept (behind k image start before) (behind l image start before) _ _ (behind_kept k l longer image start before)
    (λ b. given_kept (runs_on k image start b) (runs_on l image start b) _ _ (runs_on_kept k l longer image start b) (λ stood c g. g)) a h

next_kept : (k l : ℕ) → k ≤ l → (image : RawImage) (start : BodyStart) (told : List Told) → IsKept (next_within k image start told) (next_within l image start told)
next_kept k l longer image start told =
    given_kept (behind k image start told) (behind l image start told) _ _ (behind_kept k l longer image start told) (runs_on_kept k l longer image start)

pub one_halt : (image : RawImage) (start : BodyStart) (told : List Told) (s t : Stood) → HaltsNext image start told s → HaltsNext image start told t → s ≡ t
one_halt image start told s t first second =
    some_is s t (sym (next_kept first.steps (first.steps + second.steps) (omega arith) image start told s first.within)
    ∙ next_kept second.steps (first.steps + second.steps) (omega arith) image start told t second.within) where
      some_is : (a b : Stood) → Some a ≡ Some b → a ≡ b
      some_is a b h = cc h
