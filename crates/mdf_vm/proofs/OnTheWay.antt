-- Runs one behind another, of which all but the last met the end of memory, are one run to the next halt.
use Rattle.std.proofs.Common.{◌≡◌, ◌≤◌, ◌<◌, ◌+◌, ◌==◌, ℕ, zero, suc, Bool, true, false, cond, List, Option, Some, None, refl, ap, sym, subst, ◌∙◌, arith}
use Rattle.std.specs.Option.{option_map}
use Rattle.std.specs.Prelude.{ℤ}
use Rattle.std.proofs.lemmas.Bool.{cases_eq, eq-eqb, ne_eqb}
use Rattle.std.proofs.Math.Logic.{⊎_elim}
use Rattle.mpl_value.specs.declared.body.Arg.{Arg}
use Rattle.mpl_value.specs.declared.body.BodyStart.{BodyStart}
use Rattle.mdf_code.specs.declared.raw.RawImage.{RawImage}
use Rattle.mdf_code.specs.Alone.{Held, framed}
use Rattle.mdf_code.specs.Frames.{Around, Frame, Next, Goes, Spends, Stops}
use Rattle.mdf_code.specs.Steps.{step}
use Rattle.mdf_code.specs.Told.{Alone, Beats, Halt, Stands, Stood, Told, after, around_start, behind, most_turns, run, runs_on}
use Rattle.mdf_code.proofs.OneHalt.{behind_kept, runs_on_kept}
use Rattle.mdf_vm.specs.OnTheWay.{BeginsTheWay, ComesToHalt, GoesFurther, IsOnTheWay}
use Rattle.mdf_vm.specs.Results.{knows_of}
use Rattle.mdf_vm.specs.Runs.{RunsTo, Went}
use Rattle.mdf_vm.specs.Standing.{Ran, RanOut, alone_of, around_of, goes_on}
use Rattle.mdf_vm.specs.declared.frame.Frame as frames
use Rattle.mdf_vm.proofs.Ran.{same_knows}

-- ---- a run that began with turns behind it

later : ℕ → Stood → Stood
later before s = record s { turns = s.turns + before }

same_test : (t q before : ℕ) → (t + before + 1 == q + before) ≡ (t + 1 == q)
same_test t q before = ⊎_elim same other (cases_eq (t + 1) q) where
  same : t + 1 ≡ q → (t + before + 1 == q + before) ≡ (t + 1 == q)
  same e = eq-eqb (t + before + 1) (q + before) (omega (arith, e)) ∙ sym (eq-eqb (t + 1) q e)

  other : (t + 1 ≡ q → ⊥) → (t + before + 1 == q + before) ≡ (t + 1 == q)
  other e = ne_eqb (t + before + 1) (q + before) (λ f. e (omega (arith, f))) ∙ sym (ne_eqb (t + 1) q e)

shifted : (n : ℕ) (knows : ℕ → Arg) (x : Around) (q t before : ℕ) (f : Frame Held) → run n knows x (q + before) (t + before) f ≡ option_map (later before) (run n knows x q t f)
unfolding later
shifted zero knows x q t before f = refl
shifted (suc n) knows x q t before f = by_next (step (framed knows) x f) (λ t f. shifted n knows x q t before f) where
  by_beat : (b : Bool) (g : Frame Held) → run n knows x (q + before) (t + before + 1) g ≡ option_map (later before) (run n knows x q (t + 1) g)
      → cond b (Some (record { halt = Beats; turns = t + before + 1; frame = g })) (run n knows x (q + before) (t + before + 1) g)
      ≡ option_map (later before) (cond b (Some (record { halt = Beats; turns = t + 1; frame = g })) (run n knows x q (t + 1) g))
  by_beat true g again = ap (λ turns. Some (record { halt = Beats; turns = turns; frame = g })) (omega arith)
  by_beat false g again = again

  by_next : (next : Next Held) → ((t : ℕ) (g : Frame Held) → run n knows x (q + before) (t + before) g ≡ option_map (later before) (run n knows x q t g))
      → after (run n knows x (q + before)) (q + before) (t + before) next ≡ option_map (later before) (after (run n knows x q) q t next)
  by_next (Goes g) again = again t g
  by_next (Spends g) again =
      let turns : t + before + 1 ≡ t + 1 + before = omega arith in
      ap (λ b. cond b (Some (record { halt = Beats; turns = t + before + 1; frame = g })) (run n knows x (q + before) (t + before + 1) g)) (same_test t q before)
      ∙ by_beat (t + 1 == q) g (ap (λ k. run n knows x (q + before) k g) turns ∙ again (t + 1) g)
  by_next (Stops stop g) again = refl

-- ---- one run behind another

module _ (knows : ℕ → Arg) (x : Around) (whole quantum spent : ℕ) (f g : Frame Held) (w : Went knows x whole 0 f spent g) (is : quantum + spent ≡ whole) where
  behind_it : (more steps : ℕ) → run (more + (steps + w.steps)) knows x whole 0 f ≡ option_map (later spent) (run (more + steps) knows x quantum 0 g)
  behind_it more steps =
      let count : more + (steps + w.steps) ≡ more + steps + w.steps = omega arith in
      let none : spent ≡ 0 + spent = omega arith in
      ap (λ k. run k knows x whole 0 f) count ∙ w.same (more + steps)
      ∙ ap (λ q. run (more + steps) knows x q spent g) (sym is)
      ∙ ap (λ t. run (more + steps) knows x (quantum + spent) t g) none
      ∙ shifted (more + steps) knows x quantum 0 spent g

  went_further : (more : ℕ) (h : Frame Held) → Went knows x quantum 0 g more h → Went knows x whole 0 f (more + spent) h
  went_further later_on h v = record {
    steps = v.steps + w.steps;
    same = λ more.
        behind_it more v.steps ∙ ap (option_map (later spent)) (v.same more) ∙ sym (shifted more knows x quantum later_on spent h)
        ∙ ap (λ q. run more knows x q (later_on + spent) h) is;
  }

  runs_further : (halt : Halt) (more : ℕ) (h : Frame Held) → RunsTo knows x quantum g halt more h → RunsTo knows x whole f halt (more + spent) h
  unfolding later
  runs_further halt more h r = record {
    steps = 0 + (r.steps + w.steps);
    runs =
        let count : 0 + r.steps ≡ r.steps = omega arith in
        behind_it 0 r.steps ∙ ap (λ k. option_map (later spent) (run k knows x quantum 0 g)) count ∙ ap (option_map (later spent)) r.runs;
  }

-- ---- frames

around_is : (image : RawImage) (start : BodyStart) (f : frames.Frame) → f.setting.object ≡ start.object → around_of image f ≡ around_start image start
around_is image start f is = ap (λ (o : ℤ). record { image = image; object = o }) is

pub begins_the_way : BeginsTheWay
begins_the_way image start told f b = record {
  steps = b.steps;
  from = goes_on image f;
  behind_is = b.behind_is;
  went = record { steps = 0; same = λ more. let e : more + 0 ≡ more = omega arith in ap (λ n. run n (goes_on image f).knows (around_start image start) most_turns 0 (goes_on image f).frame) e };
  calls = refl;
  knows = refl;
  answered = b.answered;
  object = b.object;
}

-- what is known in the frame is what was known behind what it was told
known_there : (image : RawImage) (start : BodyStart) (told : List Told) (spent : ℕ) (f : frames.Frame) (w : IsOnTheWay image start told spent f) → knows_of f.setting.results ≡ w.from.knows
known_there image start told spent f w = sym (same_knows image (alone_of f) f.last) ∙ w.knows

pub goes_further : GoesFurther
goes_further image start told spent quantum before after w is out = record {
  steps = w.steps;
  from = w.from;
  behind_is = w.behind_is;
  went = went_further w.from.knows (around_start image start) most_turns quantum spent w.from.frame (goes_on image before).frame w.went is out.spent (goes_on image after).frame
      (subst (λ x. Went w.from.knows x quantum 0 (goes_on image before).frame out.spent (goes_on image after).frame) (around_is image start before w.object)
      (subst (λ k. Went k (around_of image before) quantum 0 (goes_on image before).frame out.spent (goes_on image after).frame) (known_there image start told spent before w) out.went));
  calls = out.calls ∙ w.calls;
  knows = out.knows ∙ w.knows;
  answered = out.answered;
  object = out.object ∙ w.object;
}

pub comes_to_halt : ComesToHalt
comes_to_halt image start told spent quantum before after stop w is ran =
    let runs = runs_further w.from.knows (around_start image start) most_turns quantum spent w.from.frame (goes_on image before).frame w.went is ran.halt ran.spent (alone_of after).frame
    (subst (λ x. RunsTo w.from.knows x quantum (goes_on image before).frame ran.halt ran.spent (alone_of after).frame) (around_is image start before w.object)
    (subst (λ k. RunsTo k (around_of image before) quantum (goes_on image before).frame ran.halt ran.spent (alone_of after).frame) (known_there image start told spent before w) ran.runs)) in
    record {
      steps = w.steps + runs.steps;
      from = w.from;
      behind_is = behind_kept w.steps (w.steps + runs.steps) (omega arith) image start told w.from w.behind_is;
      halts = runs_on_kept runs.steps (w.steps + runs.steps) (omega arith) image start w.from (record { halt = ran.halt; turns = ran.spent + spent; frame = (alone_of after).frame }) runs.runs;
      frame = refl;
      calls = ran.calls ∙ w.calls;
      knows = ran.knows ∙ w.knows;
      last = ran.last_is;
      object = ran.object ∙ w.object;
    }
