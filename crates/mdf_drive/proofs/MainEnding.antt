-- `main` in a machine at rest: it isn't ready, running, waiting or poisoned, so it has ended or is parked.
use Rattle.std.proofs.Common.{◌≡◌, ◌+◌, ◌<◌, ℕ, zero, suc, Bool, true, false, cond, List, [], ◌∷◌, Some, None, refl, sym, ap, ◌∙◌, subst, arith}
use Rattle.mpl_value.specs.declared.body.BodyEnd.{BodyEnd}
use Rattle.mpl_value.specs.declared.body.BodyEnd.TheVariants as end
use Rattle.mdf_actor.specs.declared.status.ActorStatus.{ActorStatus}
use Rattle.mdf_actor.specs.declared.status.ActorStatus.TheVariants as status
use Rattle.mdf_code.specs.Told.{HaltsNext, Stood}
use Rattle.mdf_code.proofs.OneHalt.{one_halt}
use Rattle.mdf_core.specs.declared.status.MachineStatus.{MachineStatus}
use Rattle.mdf_core.specs.declared.status.MachineStatus.TheVariants as machine
use Rattle.mdf_core.specs.Actors.{Actor, Call, arguments_of, is_post, main_call}
use Rattle.mdf_core.specs.Enabled.{Enabled, IsLog}
use Rattle.mdf_core.specs.Events.{Event, Fire, Send, Create, Learn, Park, Resume, Reply, End, Beat, Match, Arrive, Accept, Quit}
use Rattle.mdf_core.specs.Out.{ends_machine, has_ended}
use Rattle.mdf_core.specs.Rest.{MainDid, end_at}
use Rattle.mdf_core.specs.Stages.{AsItsStatus, HasArguments, Halted}
use Rattle.mdf_core.specs.Steps.{Log, after, step}
use Rattle.mdf_core.specs.Worlds.{Job, World, known_at}
use Rattle.mdf_core.proofs.EndedLogs.{goes, stays}
use Rattle.mdf_core.proofs.Staging.{as_statuses_say}
use Rattle.mdf_core.proofs.Changes.{MissesAt}
use Rattle.mdf_core.proofs.Standing.{Standing, stand}
use Rattle.mdf_match.specs.Ports.{missing_in}
use Rattle.mpl_value.specs.CallAnswers.{leftmost_trap}
use Rattle.mdf_drive.specs.MainEnds.{MainRests, HasEnded, IsParked}
use Rattle.mdf_drive.specs.Plain.{IsPlain}
use Rattle.mdf_drive.proofs.Plainness.{main_call_is, main_there}
use Rattle.mdf_drive.proofs.Resting.{Resting, resting}

-- ---- the last event

not_last : (job : Job) (e : Event) (before : Log) → ends_machine e ≡ false → IsLog job (e ∷ before) → (after job (e ∷ before)).why ≡ machine.Rest → ⊥
not_last job e before goes_on h is = by_ended (has_ended (e ∷ before)) refl where
  by_ended : (b : Bool) → has_ended (e ∷ before) ≡ b → ⊥
  by_ended true ended = let none : e ∷ [] ≡ [] = stays job (e ∷ []) before h (sym (ap (λ b. cond b true (has_ended before)) goes_on) ∙ ended) in absurd (cc)
  by_ended false ended = let never : machine.Going ≡ machine.Rest = sym (goes job (e ∷ before) h ended) ∙ is in absurd (cc)

last_event : (job : Job) (e : Event) (before : Log) → IsLog job (e ∷ before) → (after job (e ∷ before)).why ≡ machine.Rest → e ≡ Quit machine.Rest
last_event job (Quit machine.Rest) before h is = refl
last_event job (Quit machine.Going) before h is = absurd h.0.1
last_event job (Quit machine.Spent) before h is = absurd (cc is)
last_event job (Fire a) before h is = absurd (not_last job (Fire a) before refl h is)
last_event job (Send a turns callee member object arguments) before h is = absurd (not_last job (Send a turns callee member object arguments) before refl h is)
last_event job (Create a turns class object) before h is = absurd (not_last job (Create a turns class object) before refl h is)
last_event job (Learn a turns call) before h is = absurd (not_last job (Learn a turns call) before refl h is)
last_event job (Park a turns call) before h is = absurd (not_last job (Park a turns call) before refl h is)
last_event job (Resume a) before h is = absurd (not_last job (Resume a) before refl h is)
last_event job (Reply a turns value) before h is = absurd (not_last job (Reply a turns value) before refl h is)
last_event job (End a turns ending state) before h is = absurd (not_last job (End a turns ending state) before refl h is)
last_event job (Beat a) before h is = absurd (not_last job (Beat a) before refl h is)
last_event job (Match place) before h is = absurd (not_last job (Match place) before refl h is)
last_event job (Arrive a) before h is = absurd (not_last job (Arrive a) before refl h is)
last_event job (Accept object a number) before h is = absurd (not_last job (Accept object a number) before refl h is)

pub ended_at_rest : (job : Job) (log : Log) → IsLog job log → (after job log).why ≡ machine.Rest → (before : Log) × (log ≡ Quit machine.Rest ∷ before)
ended_at_rest job [] h is = absurd (cc is)
ended_at_rest job (e ∷ before) h is = (before, ap (λ e. e ∷ before) (last_event job e before h is))

-- ---- main at rest

rests_before : (job : Job) (before : Log) → IsPlain job → IsLog job (Quit machine.Rest ∷ before) → MainRests (after job before) ((after job before).actors 0).status
rests_before job before plain h = at ((after job before).actors 0).status refl s.arguments (stand job before h.1 0).misses where
  s : AsItsStatus job ((after job before).actors 0)
  s = as_statuses_say job before h.1 0

  r : Resting (after job before)
  r = resting job (after job before) h.0.0 h.0.1.0

  no_ports : ((after job before).actors 0).ports ≡ []
  no_ports = s.member.alone (ap (λ (c : Call). c.member) (main_call_is job before h.1))

  at : (t : ActorStatus) → ((after job before).actors 0).status ≡ t → HasArguments job ((after job before).actors 0) t → MissesAt t (missing_in ((after job before).actors 0).ports) → MainRests (after job before) t
  at (status.Waiting zero) is args misses = let never : true ≡ false = sym args.0 ∙ ap is_post (main_call_is job before h.1) in absurd (cc)
  at (status.Waiting (suc n)) is args misses = absurd (omega (arith, misses, ap missing_in no_ports))
  at status.Ready is args misses = absurd (r.ready 0 (main_there job before h.1) is)
  at status.Running is args misses = absurd (r.running 0 (main_there job before h.1) is)
  at (status.Parked child) is args misses = IsParked child refl (r.parked 0 child (main_there job before h.1) is)
  at status.Ended is args misses = HasEnded refl
  at status.Poisoned is args misses = let never : None ≡ Some args.trap = sym (ap (λ ports. leftmost_trap (arguments_of ports)) no_ports) ∙ args.leftmost in absurd (cc)

-- the end changes no actor and no result
rests_after : (w : World) (s : ActorStatus) → MainRests w s → MainRests (record w { why = machine.Rest }) s
rests_after w s (HasEnded is) = HasEnded is
rests_after w s (IsParked child is unknown) = IsParked child is unknown

pub main_rests : (job : Job) (log : Log) → IsPlain job → IsLog job log → (after job log).why ≡ machine.Rest → MainRests (after job log) ((after job log).actors 0).status
main_rests job log plain h is =
    let last = ended_at_rest job log h is in
    subst (λ log. MainRests (after job log) ((after job log).actors 0).status) (sym last.1)
    (rests_after (after job last.0) ((after job last.0).actors 0).status (rests_before job last.0 plain (subst (IsLog job) last.1 h)))

-- ---- what it did

pub main_waits : (job : Job) (log : Log) (child : ℕ) (stood : Stood) → IsLog job log → ((after job log).actors 0).status ≡ status.Parked child
    → HaltsNext job.image ((after job log).actors 0).start ((after job log).actors 0).told stood → MainDid job (after job log) end.Waits stood.frame.lines
main_waits job log child stood h is halts =
    let parked = subst (Halted job ((after job log).actors 0)) is (as_statuses_say job log h 0).halted in
    record {
      stood = stood;
      halts = halts;
      ended = ap (λ (s : Stood). end_at s.halt) (one_halt job.image ((after job log).actors 0).start ((after job log).actors 0).told stood parked.stood halts parked.halts) ∙ ap end_at parked.needs;
      printed = refl;
    }

pub main_did_one : (job : Job) (w : World) (e other : BodyEnd) (lines more : List ℕ) → MainDid job w e lines → MainDid job w other more → (e ≡ other) × (lines ≡ more)
main_did_one job w e other lines more did also =
    let same = one_halt job.image (w.actors 0).start (w.actors 0).told did.stood also.stood did.halts also.halts in (
      sym did.ended ∙ ap (λ (s : Stood). end_at s.halt) same ∙ also.ended,
      sym did.printed ∙ ap (λ (s : Stood). s.frame.lines) same ∙ also.printed,
    )
