-- Machines of programs do what the programs do directly.
use Rattle.std.proofs.Common.{◌≡◌, ◌<◌, ◌≤◌, ℕ, Bool, true, ◌∷◌, List, ℤ, sym, ap, ◌∙◌, subst, arith}
use Rattle.std.specs.FinMap.{empty}
use Rattle.mpl_ast.specs.declared.program.Program.{Program}
use Rattle.mpl_value.specs.declared.body.BodyEnd.TheVariants as end
use Rattle.mpl_value.specs.declared.body.Yield.{Yield}
use Rattle.mpl_mean.specs.Meaning.DirectRun.{direct_run, main_start}
use Rattle.mpl_mean.specs.Pending.MayBePending.{MayBePending}
use Rattle.mpl_mean.specs.TypeRules.Rules.{is_typed}
use Rattle.mdf_code.specs.Yields.{Yields}
use Rattle.mdf_code.proofs.MoreSteps.{one_yield}
use Rattle.mdf_code.proofs.RepliedYields.{unstrayed_yields}
use Rattle.mdf_core.specs.declared.status.MachineStatus.TheVariants.{Rest}
use Rattle.mdf_core.specs.Enabled.{IsLog}
use Rattle.mdf_core.specs.Events.{Quit}
use Rattle.mdf_core.specs.Rest.{MainDid}
use Rattle.mdf_core.specs.Steps.{Log, after}
use Rattle.mdf_core.specs.Worlds.{Job, World}
use Rattle.mdf_drive.specs.AtRest.{IsDirectRun}
use Rattle.mdf_drive.specs.Plain.{StraysAsBodies}
use Rattle.mdf_drive.proofs.DirectRun.{direct_run as runs_at_rest}
use Rattle.mdf_drive.proofs.Spending.{over_is_spent, turns_within_run}
use Rattle.mpl_gen_code.specs.ProgramImage.{image_of}
use Rattle.mpl_gen_laws.proofs.SafeStarts.{covered_frames_stray_nowhere}
use Rattle.mpl_gen_laws.proofs.TypedRuns.{main_yields}
use Rattle.mdf_programs.specs.ProgramJobs.{HasRegularClasses, RanDirectly, SameRuns, job_of}
use Rattle.mdf_programs.proofs.ProgramStarts.{program_starts_fit, regular_programs_are_plain}

-- the image's `main` yields what the program does directly
yields_directly : (p : Program) (marks : ℕ → Bool) → is_typed p ≡ true → ((node : ℕ) → MayBePending p node → marks node ≡ true) → (input : List ℤ) (budget : ℕ)
    → Yields (image_of p marks) (main_start input) empty budget (direct_run p input budget)
yields_directly p marks typed covers input budget = unstrayed_yields (image_of p marks) (main_start input) empty budget (direct_run p input budget) (main_yields p marks typed covers input budget)

pub frames_stray_as_bodies : (p : Program) (marks : ℕ → Bool) (input : List ℤ) (budget : ℕ) → is_typed p ≡ true → HasRegularClasses p → ((node : ℕ) → MayBePending p node → marks node ≡ true) → (log : Log) → IsLog (job_of p marks input budget) log
    → StraysAsBodies (job_of p marks input budget) (after (job_of p marks input budget) log)
frames_stray_as_bodies p marks input budget typed regular covers log h c here begun =
    covered_frames_stray_nowhere p marks typed covers ((after (job_of p marks input budget) log).actors c).start (program_starts_fit p marks input budget typed regular log h c here begun)

pub rests_directly : (p : Program) (marks : ℕ → Bool) (input : List ℤ) (budget : ℕ) → is_typed p ≡ true → HasRegularClasses p → ((node : ℕ) → MayBePending p node → marks node ≡ true) → (log : Log) → IsLog (job_of p marks input budget) (Quit Rest ∷ log)
    → RanDirectly p (job_of p marks input budget) (after (job_of p marks input budget) log)
rests_directly p marks input budget typed regular covers log h = record {
  did = subst (λ (y : Yield). MainDid job w y.end y.lines) same d.did;
  turns = d.turns ∙ ap (λ (y : Yield). y.turns) same;
  unspent = λ spent. d.unspent (ap (λ (y : Yield). y.end) same ∙ spent);
} where
  job : Job
  job = job_of p marks input budget

  w : World
  w = after (job_of p marks input budget) log

  d : IsDirectRun (job_of p marks input budget) (after (job_of p marks input budget) log)
  d = runs_at_rest (job_of p marks input budget) log (regular_programs_are_plain p marks input budget regular) (frames_stray_as_bodies p marks input budget typed regular covers log h.1) h

  same : d.yield ≡ direct_run p input budget
  same = one_yield (image_of p marks) (main_start input) empty budget d.yield (direct_run p input budget) d.yields (yields_directly p marks typed covers input budget)

pub over_budget_is_spent : (p : Program) (marks : ℕ → Bool) (input : List ℤ) (budget : ℕ) → is_typed p ≡ true → HasRegularClasses p → ((node : ℕ) → MayBePending p node → marks node ≡ true) → (log : Log) → IsLog (job_of p marks input budget) log
    → budget < (after (job_of p marks input budget) log).turns → (direct_run p input budget).end ≡ end.Spent
over_budget_is_spent p marks input budget typed regular covers log h beyond =
    over_is_spent (job_of p marks input budget) log (direct_run p input budget) (regular_programs_are_plain p marks input budget regular) (frames_stray_as_bodies p marks input budget typed regular covers log h) h beyond
    (yields_directly p marks typed covers input budget)

module _ (p : Program) (marks others : ℕ → Bool) (input : List ℤ) (budget : ℕ) (typed : is_typed p ≡ true) (regular : HasRegularClasses p) (covers : (node : ℕ) → MayBePending p node → marks node ≡ true) (others_cover : (node : ℕ) → MayBePending p node → others node ≡ true)
    (one other : Log) (h : IsLog (job_of p marks input budget) (Quit Rest ∷ one)) where
  pub run_the_same : IsLog (job_of p others input budget) (Quit Rest ∷ other) → SameRuns (job_of p marks input budget) (after (job_of p marks input budget) one) (job_of p others input budget) (after (job_of p others input budget) other)
  run_the_same k = let a = rests_directly p marks input budget typed regular covers one h in let b = rests_directly p others input budget typed regular others_cover other k in record {
    turns = a.turns ∙ sym b.turns;
    end = (direct_run p input budget).end;
    lines = (direct_run p input budget).lines;
    did = a.did;
    other_did = b.did;
  }

  pub turns_within : IsLog (job_of p others input budget) other → (after (job_of p others input budget) other).turns ≤ (after (job_of p marks input budget) one).turns
  turns_within k = let a = rests_directly p marks input budget typed regular covers one h in
      omega (
        arith,
        a.turns,
        turns_within_run (job_of p others input budget) other (direct_run p input budget) budget (regular_programs_are_plain p others input budget regular) (frames_stray_as_bodies p others input budget typed regular others_cover other k) k
            (yields_directly p others typed others_cover input budget) a.unspent,
      )
