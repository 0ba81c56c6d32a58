-- Jobs of programs, and what is said of their machines.
use Rattle.std.specs.Prelude.{ℕ, ◌≡◌, ◌≢◌, Bool, true, List, ℤ}
use Rattle.mpl_ast.specs.declared.program.Program.{Program}
use Rattle.mpl_value.specs.declared.body.BodyEnd.{BodyEnd}
use Rattle.mpl_value.specs.declared.body.BodyEnd.TheVariants as end
use Rattle.mpl_mean.specs.Laws.Sizes.{Every}
use Rattle.mpl_mean.specs.Meaning.DirectRun.{direct_run}
use Rattle.mpl_mean.specs.Meaning.Layout.{Class, classes_of}
use Rattle.mdf_core.specs.Rest.{MainDid}
use Rattle.mdf_core.specs.Worlds.{Job, World}
use Rattle.mpl_gen_code.specs.ProgramImage.{image_of}

-- each class is regular
abbrev pub HasRegularClasses : Program → Type 0
HasRegularClasses p = Every (λ (class : Class). class.is_regular ≡ true) (classes_of p.declarations)

-- the image of a program under these marks, with an input and a budget
abbrev pub job_of : Program → (ℕ → Bool) → List ℤ → ℕ → Job
job_of p marks input budget = record { image = image_of p marks; input = input; budget = budget }

-- `main` came to the end of the direct run within the budget, with its lines, and as many turns were taken.
pub record RanDirectly (p : Program) (job : Job) (w : World) : Type 0 where
  pub did : MainDid job w (direct_run p job.input job.budget).end (direct_run p job.input job.budget).lines
  pub turns : w.turns ≡ (direct_run p job.input job.budget).turns
  pub unspent : (direct_run p job.input job.budget).end ≢ end.Spent

-- two machines at rest whose `main` did the same, with as many turns
pub record SameRuns (job : Job) (w : World) (other_job : Job) (other : World) : Type 0 where
  pub turns : w.turns ≡ other.turns
  pub end : BodyEnd
  pub lines : List ℕ
  pub did : MainDid job w end lines
  pub other_did : MainDid other_job other end lines
