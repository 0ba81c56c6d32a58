-- Frames that are out are ready to run, and frames that stand at a stop may be told what it asks for.
use Rattle.std.proofs.Common.{◌≡◌, ◌<◌, ◌≤◌, ◌+◌, ◌^◌, ◌⊎◌, ℕ, zero, suc, List, [], ◌∷◌, length, Option, Some, None, refl, sym, ap, ◌∙◌, subst, arith, inl, inr}
use Rattle.mpl_value.specs.declared.body.BodyStart.{BodyStart}
use Rattle.mdf_code.specs.declared.raw.RawImage.{RawImage}
use Rattle.mdf_code.specs.Alone.{Held, Words, Pending}
use Rattle.mdf_code.specs.Frames.{Calls, Creates, Ends, Frame, Needs, Replies, Strays, Traps}
use Rattle.mdf_code.specs.Stacks.{given}
use Rattle.mdf_code.specs.Told.{Alone, Beaten, Beats, Called, Gave, Halt, Learnt, Named, NamesMade, Stands, Stood, Told, behind, calls_made, first, runs_on, told_at}
use Rattle.mdf_code.proofs.ToldFrames.{names_made}
use Rattle.mdf_core.specs.Enabled.{IsLog, ending_at}
use Rattle.mdf_core.specs.Events.{Ending}
use Rattle.mdf_core.specs.Naming.{sum_below}
use Rattle.mdf_core.specs.Steps.{Log, after}
use Rattle.mdf_core.specs.Trees.{at_child, over_calls, over_children}
use Rattle.mdf_core.specs.Worlds.{Job, World}
use Rattle.mdf_core.proofs.Lists.{same_or}
use Rattle.mdf_core.proofs.TreeOfActors.{sums_up, tree}
use Rattle.mdf_vm.specs.Standing.{Awaits, HasEnded, IsReady, alone_of, goes_on, goes_on_at, last_at}
use Rattle.mdf_vm.specs.declared.frame.Frame as frames
use Rattle.mdf_vm.specs.declared.last.Last.{Last}
use Rattle.mdf_vm.specs.declared.last.Last.TheVariants as last
use Rattle.mdf_machine.specs.Courses.{Course, world_of}
use Rattle.mdf_machine.specs.Frames.{IsFrameAt}
use Rattle.mdf_machine.specs.FramesOut.{IsOut}
use Rattle.mdf_machine.specs.RightCourses.{IsRight}
use Rattle.mdf_machine.proofs.FewArcs.{few_actors}

-- ---- how many calls a frame has made

some_alone : (a b : Alone) → Some a ≡ Some b → a ≡ b
some_alone a b h = cc h

told_calls : (image : RawImage) (told : List Told) (a : Alone) (f : Frame Held) (halt : Halt) (t : Told) (b : Alone) → a.calls ≡ calls_made told → told_at image a f halt t ≡ Some b → b.calls ≡ calls_made (t ∷ told)
told_calls image told a f (Stands (Calls member object arguments)) Called b calls h = ap (λ (x : Alone). x.calls) (sym (some_alone _ b h)) ∙ ap (λ (n : ℕ). n + 1) calls
told_calls image told a f (Stands (Needs (Pending result))) (Learnt known) b calls h = ap (λ (x : Alone). x.calls) (sym (some_alone _ b h)) ∙ calls
told_calls image told a f (Stands (Creates class)) (Named object) b calls h = ap (λ (x : Alone). x.calls) (sym (some_alone _ b h)) ∙ calls
told_calls image told a f (Stands (Replies value)) Gave b calls h = ap (λ (x : Alone). x.calls) (sym (some_alone _ b h)) ∙ calls
told_calls image told a f Beats Beaten b calls h = ap (λ (x : Alone). x.calls) (sym (some_alone _ b h)) ∙ calls
told_calls image told a f halt t b calls h = absurd (cc h)

pub behind_calls : (fuel : ℕ) (image : RawImage) (start : BodyStart) (told : List Told) (a : Alone) → behind fuel image start told ≡ Some a → a.calls ≡ calls_made told
behind_calls fuel image start [] a h = ap (λ (x : Alone). x.calls) (sym (some_alone (first image start) a h))
behind_calls fuel image start (t ∷ told) b h = by_behind (behind_calls fuel image start told) (behind fuel image start told) refl h where
  by_stood : (a : Alone) → a.calls ≡ calls_made told → (o : Option Stood) → given o (λ stood. told_at image a stood.frame stood.halt t) ≡ Some b → b.calls ≡ calls_made (t ∷ told)
  by_stood a calls None i = absurd (cc i)
  by_stood a calls (Some stood) i = told_calls image told a stood.frame stood.halt t b calls i

  by_behind : ((a : Alone) → behind fuel image start told ≡ Some a → a.calls ≡ calls_made told) → (o : Option Alone) → behind fuel image start told ≡ o →
      given o (λ a. given (runs_on fuel image start a) (λ stood. told_at image a stood.frame stood.halt t)) ≡ Some b → b.calls ≡ calls_made (t ∷ told)
  by_behind calls None is i = absurd (cc i)
  by_behind calls (Some a) is i = by_stood a (calls a is) (runs_on fuel image start a) i

-- ---- how many that are

ones : (n : ℕ) → sum_below n (λ c. 1) ≡ n
ones zero = refl
ones (suc n) = omega (arith, ones n)

one_of : (n a : ℕ) (f : ℕ → ℕ) → a < n → f a ≤ sum_below n f
one_of zero a f below = absurd (omega (arith, below))
one_of (suc n) a f below = at (same_or a n) (one_of n a f) where
  at : (a ≡ n) ⊎ (a ≡ n → ⊥) → (a < n → f a ≤ sum_below n f) → f a ≤ sum_below (suc n) f
  at (inl is) again = omega (arith, ap f is)
  at (inr differ) again = omega (arith, again (omega (arith, below, differ)))

one_each : (child : ℕ → Option ℕ) (n : ℕ) → ((call : ℕ) → 1 ≤ call → call ≤ n → (c : ℕ) × (child call ≡ Some c)) → over_children (λ c. 1) child n ≡ n
one_each child zero there = refl
one_each child (suc n) there =
    let last = there (suc n) (omega arith) (omega arith) in
    omega (arith, one_each child n (λ call low high. there call low (omega (arith, high))), ap (at_child (λ c. 1)) last.1)

few_calls : (job : Job) (log : Log) → IsLog job log → (a : ℕ) → a < (after job log).count → calls_made ((after job log).actors a).told ≤ (after job log).count
few_calls job log h a there =
    let w = after job log in
    omega (
      arith,
      sums_up job log h (λ c. 1),
      ones w.count,
      one_of w.count a (λ k. over_calls (λ c. 1) (w.actors k)) there,
      one_each (w.actors a).child (calls_made (w.actors a).told) (λ call low high. (tree job log h).calls a call there low high),
    )

-- ---- frames that are out

before_calls : (image : RawImage) (a : Alone) (l : Last) → a.calls ≤ (goes_on_at image a l).calls
before_calls image a last.Going = omega arith
before_calls image a (last.Called member) = omega arith
before_calls image a (last.Needs result) = omega arith
before_calls image a last.Creates = omega arith
before_calls image a (last.Named object) = omega arith
before_calls image a (last.Ended line) = omega arith
before_calls image a (last.Trapped trap) = omega arith

pub ready_there : (course : Course) (a : ℕ) (f : frames.Frame) → IsRight course → IsOut course.job (world_of course) a f → IsReady f
ready_there course a f right out =
    let w = world_of course in
    let budget : course.job.budget ≤ 4000000 = right.budget in
    let made = behind_calls out.goes.steps course.job.image (w.actors a).start (w.actors a).told (goes_on course.job.image f) out.goes.behind_is in (
      out.goes.answered,
      omega (arith, out.turns),
      omega (arith, before_calls course.job.image (alone_of f) f.last, made, few_calls course.job course.log right.is_log a out.there, few_actors course.job course.log right.image right.is_log, budget),
    )

-- ---- frames at stops

pub awaits_there : (job : Job) (w : World) (a turns call : ℕ) (f : frames.Frame) → IsFrameAt job w a turns (Stands (Needs (Pending call))) f → Awaits call f
awaits_there job w a turns call f at =
    let names = subst (NamesMade (calls_made (w.actors a).told)) at.is (names_made job.image (w.actors a).start (w.actors a).told at.stood at.stops.halts) in
    let made = behind_calls at.stands.steps job.image (w.actors a).start (w.actors a).told at.stands.from at.stands.behind_is in
    (at.stands.last ∙ ap last_at at.is, names.0, omega (arith, names.1, made, at.stands.calls))

ended_last : (halt : Halt) (ending : Ending) → ending_at halt ≡ Some ending → HasEnded (last_at halt)
ended_last (Stands (Ends line)) ending is = tt
ended_last (Stands Strays) ending is = tt
ended_last (Stands (Traps trap)) ending is = tt
ended_last (Stands (Calls member object arguments)) ending is = absurd (cc is)
ended_last (Stands (Needs value)) ending is = absurd (cc is)
ended_last (Stands (Replies value)) ending is = absurd (cc is)
ended_last (Stands (Creates class)) ending is = absurd (cc is)
ended_last Beats ending is = absurd (cc is)

pub ends_there : (job : Job) (w : World) (a turns : ℕ) (halt : Halt) (ending : Ending) (f : frames.Frame) → IsFrameAt job w a turns halt f → ending_at halt ≡ Some ending → HasEnded f.last
ends_there job w a turns halt ending f at is = subst HasEnded (sym (at.stands.last ∙ ap last_at at.is)) (ended_last halt ending is)
