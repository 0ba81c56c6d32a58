-- Frames that are held outside a machine, from one event to the next.
use Rattle.std.proofs.Common.{◌≡◌, ◌<◌, ◌≤◌, ◌+◌, ◌||◌, ℕ, ℤ, Bool, true, false, List, [], ◌∷◌, Option, Some, None, refl, sym, ap, ap₂, ◌∙◌, subst, arith}
use Rattle.mpl_value.specs.declared.body.BodyStart.{BodyStart}
use Rattle.mpl_value.specs.declared.known.Known.{Known}
use Rattle.mdf_actor.specs.declared.status.ActorStatus.TheVariants as status
use Rattle.mdf_code.specs.declared.raw.RawImage.{RawImage}
use Rattle.mdf_code.specs.Alone.{Held, Pending}
use Rattle.mdf_code.specs.Frames.{Calls, Needs, Replies}
use Rattle.mdf_code.specs.Told.{Beaten, Beats, Called, Gave, Halt, HaltsNext, Learnt, Stands, Stood, Told, most_turns}
use Rattle.mdf_code.proofs.OneHalt.{one_halt}
use Rattle.mdf_core.specs.Actors.{Actor}
use Rattle.mdf_core.specs.Calls.{calls_on}
use Rattle.mdf_core.specs.Enabled.{IsLog}
use Rattle.mdf_core.specs.Events.{Beat, Event, Fire, Learn, Reply, Resume, Send}
use Rattle.mdf_core.specs.Naming.{SameFrame, is_running, names}
use Rattle.mdf_core.specs.Out.{actor_of, is_actor, is_out}
use Rattle.mdf_core.specs.Stages.{Halted, HaltsParked, HasTurns, Idle}
use Rattle.mdf_core.specs.Steps.{Log, after, learns, runs, step, tells}
use Rattle.mdf_core.specs.Worlds.{Job, World, acts, known_at, spends}
use Rattle.mdf_core.proofs.Running.{out_runs, out_stays}
use Rattle.mdf_core.proofs.Staging.{as_statuses_say}
use Rattle.mdf_core.proofs.Transitions.{acts_acted, gives_acted, sends_sent}
use Rattle.mdf_core.proofs.Wired.{later_at}
use Rattle.mdf_vm.specs.Standing.{Ran, Tells}
use Rattle.mdf_vm.specs.declared.frame.Frame as frames
use Rattle.mdf_vm.specs.declared.stop.Sent as calls
use Rattle.mdf_vm.specs.declared.stop.Stop as stops
use Rattle.mdf_vm.specs.declared.stop.Stop.TheVariants as stop
use Rattle.mdf_machine.specs.Answers.{StandsThere}
use Rattle.mdf_machine.specs.Frames.{Begins, GoesOn, HasLearnt, IsFrameAt, StandsAt}
use Rattle.mdf_machine.specs.FramesOut.{IsOut}
use Rattle.mdf_machine.specs.MakingCalls.{StopsAtCall}
use Rattle.mdf_machine.proofs.FrameLaws.{beaten_goes_on, begins_there, called_goes_on, gave_goes_on, halts_there, learnt_goes_on, runs_there}
use Rattle.mdf_machine.proofs.One.{acts_one}

-- ---- what is out

-- the turns of a frame that were taken are no part of where it goes on
turns_taken : (image : RawImage) (start : BodyStart) (told : List Told) (f : frames.Frame) → GoesOn image start told f → GoesOn image start told (record f { turns = 0 })
turns_taken image start told f g = record { steps = g.steps; behind_is = g.behind_is; answered = g.answered; object = g.object }

-- an actor whose frame is the same as this one's
out_by : (job : Job) (v : World) (a : ℕ) (f : frames.Frame) (x : Actor) → SameFrame x (v.actors a) → a < v.count → x.status ≡ status.Running → x.counted ≡ 0 → f.turns ≡ 0 → GoesOn job.image x.start x.told f → IsOut job v a f
out_by job v a f x same there running counted turns goes = record {
  there = there;
  running = same.status ∙ running;
  goes = subst (λ start. GoesOn job.image start (v.actors a).told f) (sym same.start) (subst (λ told. GoesOn job.image x.start told f) (sym same.told) goes);
  counted = same.counted ∙ counted;
  turns = turns;
}

-- ---- events of its actor

pub begins_out : (job : Job) (log : Log) (a : ℕ) (f : frames.Frame) → IsLog job (Fire a ∷ log) → Begins job.image ((after job log).actors a).start f → IsOut job (after job (Fire a ∷ log)) a f
begins_out job log a f h b =
    let w = after job log in
    let acted = acts_acted a 1 runs w (record { ports = refl; spent = refl }) in
    let idle : Idle (w.actors a) = subst (HasTurns job (w.actors a)) h.0.1.ready (as_statuses_say job log h.1 a).turns in
    out_by job (after job (Fire a ∷ log)) a f (runs (w.actors a)) acted.frame (omega (arith, h.0.1.there, acted.lists.count)) refl idle.counted b.turns
    (subst (λ told. GoesOn job.image (w.actors a).start told f) (sym idle.told) (begins_there job.image (w.actors a).start f b))

pub called_out : (job : Job) (log : Log) (a turns callee member : ℕ) (object : ℤ) (arguments : List Held) (f : frames.Frame) → IsLog job (Send a turns callee member object arguments ∷ log)
    → IsFrameAt job (after job log) a turns (Stands (Calls member object arguments)) f → IsOut job (after job (Send a turns callee member object arguments ∷ log)) a (record f { turns = 0 })
called_out job log a turns callee member object arguments f h at =
    let w = after job log in
    let sent = sends_sent job a turns callee member object arguments w (λ e. absurd (omega (arith, e, h.0.1.next, at.stops.there))) in
    out_by job (after job (Send a turns callee member object arguments ∷ log)) a (record f { turns = 0 }) (calls_on job callee member (w.actors a)) sent.frame (omega (arith, at.stops.there, h.0.1.next, sent.count)) at.stops.running refl refl
    (turns_taken job.image (w.actors a).start (Called ∷ (w.actors a).told) f (called_goes_on job.image (w.actors a).start (w.actors a).told at.stood f member object arguments at.stands at.is))

pub gave_out : (job : Job) (log : Log) (a turns : ℕ) (value : Held) (f : frames.Frame) → IsLog job (Reply a turns value ∷ log)
    → IsFrameAt job (after job log) a turns (Stands (Replies value)) f → IsOut job (after job (Reply a turns value ∷ log)) a (record f { turns = 0 })
gave_out job log a turns value f h at =
    let w = after job log in
    let acted = gives_acted a turns value w in
    out_by job (after job (Reply a turns value ∷ log)) a (record f { turns = 0 }) (tells Gave (w.actors a)) acted.frame (omega (arith, at.stops.there, acted.lists.count)) at.stops.running refl refl
    (turns_taken job.image (w.actors a).start (Gave ∷ (w.actors a).told) f (gave_goes_on job.image (w.actors a).start (w.actors a).told at.stood f value at.stands at.is))

pub beaten_out : (job : Job) (log : Log) (a turns : ℕ) (f : frames.Frame) → IsLog job (Beat a ∷ log) → IsFrameAt job (after job log) a turns Beats f → IsOut job (after job (Beat a ∷ log)) a (record f { turns = 0 })
beaten_out job log a turns f h at =
    let w = after job log in
    let acted = acts_acted a most_turns (tells Beaten) w (record { ports = refl; spent = refl }) in
    out_by job (after job (Beat a ∷ log)) a (record f { turns = 0 }) (tells Beaten (w.actors a)) acted.frame (omega (arith, at.stops.there, acted.lists.count)) at.stops.running refl refl
    (turns_taken job.image (w.actors a).start (Beaten ∷ (w.actors a).told) f (beaten_goes_on job.image (w.actors a).start (w.actors a).told at.stood f at.stands at.is))

pub learnt_out : (job : Job) (log : Log) (a turns call : ℕ) (known : Known) (f g : frames.Frame) → IsLog job (Learn a turns call ∷ log) → known_at (after job log) (((after job log).actors a).child call) ≡ Some known
    → IsFrameAt job (after job log) a turns (Stands (Needs (Pending call))) f → HasLearnt call known f g → g.turns ≡ 0 → IsOut job (after job (Learn a turns call ∷ log)) a g
learnt_out job log a turns call known f g h is at learnt none =
    let w = after job log in
    let acted = acts_acted a turns (tells (Learnt known)) w (record { ports = refl; spent = refl }) in
    subst (λ o. IsOut job (acts a turns (learns o) w) a g) (sym is)
    (out_by job (acts a turns (tells (Learnt known)) w) a g (tells (Learnt known) (w.actors a)) acted.frame (omega (arith, at.stops.there, acted.lists.count)) at.stops.running refl none
    (learnt_goes_on job.image (w.actors a).start (w.actors a).told at.stood f g call known at.stands at.is learnt))

-- ---- stops

pub stops_there : (job : Job) (w : World) (a : ℕ) (f g : frames.Frame) (why : stops.Stop) → IsOut job w a f → Ran job.image most_turns f why g → (halt : Halt) × Tells why halt × IsFrameAt job w a g.turns halt g
stops_there job w a f g why out ran =
    let r = runs_there job.image (w.actors a).start (w.actors a).told f g why out.goes ran in (
      r.0.halt,
      r.2,
      record {
        stood = r.0;
        stops = record { there = out.there; running = out.running; halts = halts_there job.image (w.actors a).start (w.actors a).told r.0 g r.1; turns_are = omega (arith, r.3, out.turns, out.counted) };
        is = refl;
        stands = r.1;
      },
    )

pub calls_there : (job : Job) (w : World) (a turns : ℕ) (halt : Halt) (f : frames.Frame) (sent : calls.Sent) → IsFrameAt job w a turns halt f → Tells (stop.Call sent) halt → StopsAtCall job w a turns sent
calls_there job w a turns halt f sent at tells = record { arguments = tells.0; are = tells.2; stops = record { stood = at.stood; stops = at.stops; is = at.is ∙ tells.1 } }

pub resumes_there : (job : Job) (log : Log) (a : ℕ) (f : frames.Frame) → IsLog job (Resume a ∷ log) → StandsThere (record { job = job; log = log }) a f
    → (call : ℕ) × IsFrameAt job (after job (Resume a ∷ log)) a 0 (Stands (Needs (Pending call))) f
resumes_there job log a f h s = (
  parked.call,
  record {
    stood = s.stood;
    stops = record {
      there = h.0.1.there;
      running = ap (λ (x : Actor). x.status) here;
      halts = subst (λ (x : Actor). HaltsNext job.image x.start x.told s.stood) (sym here) halts;
      turns_are = omega (arith, ap (λ (d : Stood). d.turns) same, parked.counted, ap (λ (x : Actor). x.counted) here);
    };
    is = ap (λ (d : Stood). d.halt) same ∙ parked.needs;
    stands = subst (λ (x : Actor). StandsAt job.image x.start x.told s.stood f) (sym here) s.stands;
  },
) where
  parked : HaltsParked job ((after job log).actors a) h.0.1.child
  parked = subst (Halted job ((after job log).actors a)) h.0.1.parked (as_statuses_say job log h.1 a).halted

  halts : HaltsNext job.image ((after job log).actors a).start ((after job log).actors a).told s.stood
  halts = halts_there job.image ((after job log).actors a).start ((after job log).actors a).told s.stood f s.stands

  same : s.stood ≡ parked.stood
  same = one_halt job.image ((after job log).actors a).start ((after job log).actors a).told s.stood parked.stood halts parked.halts

  here : (after job (Resume a ∷ log)).actors a ≡ spends 0 (runs ((after job log).actors a))
  here = (acts_one a 0 runs (after job log)).here

-- ---- other events

pub stays_out : (job : Job) (e : Event) (log : Log) (a : ℕ) (f : frames.Frame) → IsLog job (e ∷ log) → is_actor a (actor_of e) ≡ false → IsOut job (after job log) a f → IsOut job (after job (e ∷ log)) a f
stays_out job e log a f h unnamed out =
    let same = out_stays job (e ∷ []) log a h (out_runs job log a h.1 ∙ ap is_running out.running) (ap (λ b. b || false) unnamed) in
    out_by job (after job (e ∷ log)) a f ((after job log).actors a) same (omega (arith, out.there, (later_at job e log h).count)) out.running out.counted out.turns out.goes
