-- Runs put together of steps.
use Rattle.std.proofs.Common.{◌≡◌, ◌≢◌, ◌≤◌, ◌<◌, ◌+◌, ℕ, zero, suc, Bool, cond, Some, ap, ◌∙◌, arith}
use Rattle.std.proofs.lemmas.Bool.{eq-eqb, ne_eqb}
use Rattle.std.specs.Prelude.{Result, Ok, Err, OnErr}
use Rattle.mpl_value.specs.declared.body.Arg.{Arg}
use Rattle.mdf_code.specs.Alone.{Held, framed}
use Rattle.mdf_code.specs.Frames.{Around, Frame, Goes}
use Rattle.mdf_code.specs.Steps.{step}
use Rattle.mdf_code.specs.Told.{Beats, Stands, after, run}
use Rattle.mdf_vm.specs.Internal.Moves.{next_of, stop_of}
use Rattle.mdf_vm.specs.Internal.Turns.{ComesTo, GoesOn, InRun}
use Rattle.mdf_vm.specs.Runs.{RunsTo, Went}
use Rattle.mdf_vm.specs.declared.moves.Halted.{Halted}
use Rattle.mdf_vm.specs.declared.moves.Move.{Move}
use Rattle.mdf_vm.specs.declared.moves.Move.TheVariants as move

pub stays : (knows : ℕ → Arg) (x : Around) (f : Frame Held) → GoesOn knows x f f
stays knows x f = record {
  steps = 0;
  same = λ more quantum turns. let e : more + 0 ≡ more = omega arith in ap (λ n. run n knows x quantum turns f) e;
}

-- one step more
pub goes_further : (knows : ℕ → Arg) (x : Around) (before f g : Frame Held) → GoesOn knows x before f → step (framed knows) x f ≡ Goes g → GoesOn knows x before g
goes_further knows x before f g h is = record {
  steps = suc h.steps;
  same = λ more quantum turns.
      let e : more + suc h.steps ≡ suc more + h.steps = omega arith in
      ap (λ n. run n knows x quantum turns before) e ∙ (h.same (suc more) quantum turns ∙ ap (after (run more knows x quantum) quantum turns) is);
}

pub comes_to : (knows : ℕ → Arg) (x : Around) (before f later : Frame Held) (m : Move) → GoesOn knows x before f → step (framed knows) x f ≡ next_of m later → m ≢ move.Goes → ComesTo knows x before m later
comes_to knows x before f later m h is turns = record {
  steps = h.steps;
  comes = λ more quantum t. h.same (suc more) quantum t ∙ ap (after (run more knows x quantum) quantum t) is;
  turns = turns;
}

-- ---- with turns

pub begins : (knows : ℕ → Arg) (x : Around) (quantum : ℕ) (f : Frame Held) → 1 ≤ quantum → InRun knows x quantum f 0 f
begins knows x quantum f some = record {
  within = omega arith;
  going = λ _. record {
    steps = 0;
    same = λ more. let e : more + 0 ≡ more = omega arith in ap (λ n. run n knows x quantum 0 f) e;
  };
  beat = λ same. absurd (omega (arith, same, some));
}

-- to where no memory was left
pub went_on : (knows : ℕ → Arg) (x : Around) (quantum spent : ℕ) (before f later : Frame Held) → Went knows x quantum 0 before spent f → GoesOn knows x f later → Went knows x quantum 0 before spent later
went_on knows x quantum spent before f later w h = record {
  steps = h.steps + w.steps;
  same = λ more.
      let e : more + (h.steps + w.steps) ≡ more + h.steps + w.steps = omega arith in
      ap (λ n. run n knows x quantum 0 before) e ∙ (w.same (more + h.steps) ∙ h.same more quantum spent);
}

pub stops_there : (knows : ℕ → Arg) (x : Around) (quantum spent : ℕ) (before f later : Frame Held) (halted : Halted) → Went knows x quantum 0 before spent f → ComesTo knows x f (move.Stops halted) later →
    RunsTo knows x quantum before (Stands (stop_of halted)) spent later
stops_there knows x quantum spent before f later halted w h = record {
  steps = suc zero + h.steps + w.steps;
  runs = w.same (suc zero + h.steps) ∙ h.comes zero quantum spent;
}

-- one turn more
pub spends_one : (knows : ℕ → Arg) (x : Around) (quantum spent : ℕ) (before f later : Frame Held) → Went knows x quantum 0 before spent f → spent < quantum → ComesTo knows x f move.Spends later →
    InRun knows x quantum before (spent + 1) later
spends_one knows x quantum spent before f later w below h = record {
  within = omega (arith, below);
  going = λ less. record {
    steps = suc (h.steps + w.steps);
    same = λ more.
        let e : more + suc (h.steps + w.steps) ≡ suc more + h.steps + w.steps = omega arith in
        let other : spent + 1 ≢ quantum = λ same. omega (arith, same, less) in
        ap (λ n. run n knows x quantum 0 before) e
        ∙ (w.same (suc more + h.steps) ∙ (h.comes more quantum spent
        ∙ ap (λ (t : Bool). cond t (Some (record { halt = Beats; turns = spent + 1; frame = later })) (run more knows x quantum (spent + 1) later)) (ne_eqb (spent + 1) quantum other)));
  };
  beat = λ same. record {
    steps = suc zero + h.steps + w.steps;
    runs =
        w.same (suc zero + h.steps) ∙ (h.comes zero quantum spent
        ∙ ap (λ (t : Bool). cond t (Some (record { halt = Beats; turns = spent + 1; frame = later })) (run zero knows x quantum (spent + 1) later)) (eq-eqb (spent + 1) quantum same));
  };
}

pub on_err : {T E P : Type 0} (r : Result T E) → P → OnErr r P
on_err (Ok x) h = tt
on_err (Err e) h = h
