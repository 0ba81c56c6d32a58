-- What the calls answer that only read.
use Rattle.std.proofs.Common.{◌≡◌, ◌<◌, ◌≤◌, ℕ, true, false, Some, None, sym, ap, ◌∙◌, subst, arith, slice_get, eqb-true}
use Rattle.mpl_value.specs.declared.body.BodyEnd.TheVariants as end
use Rattle.mpl_value.specs.declared.known.Known.{Known}
use Rattle.mdf_actor.specs.declared.status.ActorStatus.{ActorStatus}
use Rattle.mdf_actor.specs.declared.status.ActorStatus.TheVariants as status
use Rattle.mdf_code.specs.Told.{Stood}
use Rattle.mdf_core.specs.declared.status.MachineStatus.TheVariants as machine
use Rattle.mdf_core.specs.Enabled.{IsLog}
use Rattle.mdf_core.specs.Rest.{MainDid}
use Rattle.mdf_core.specs.Steps.{Log, after}
use Rattle.mdf_core.specs.Worlds.{Job, World, known_at}
use Rattle.mdf_core.proofs.Lists.{nat_same}
use Rattle.mdf_drive.specs.MainEnds.{MainRests, HasEnded, IsParked}
use Rattle.mdf_drive.proofs.MainEnding.{main_rests, main_waits}
use Rattle.mdf_vm.specs.declared.frame.Frame.{Frame}
use Rattle.mdf_machine.specs.declared.parts.Parts.{Parts}
use Rattle.mdf_machine.specs.LookUps.{IsWoken, Wakes}
use Rattle.mdf_machine.specs.Frames.{StandsAt}
use Rattle.mdf_machine.specs.Internal.Held.{Holds, Kept, MainEnded, MainIs}
use Rattle.mdf_machine.specs.Internal.Settling.{waits_for}
use Rattle.mdf_machine.proofs.FrameLaws.{halts_there}
use Rattle.mdf_machine.proofs.Giving.{callers_wait}
use Rattle.mdf_machine.proofs.Seen.{parked_child, status_there}

-- ---- who is woken

parked_by : (s : ActorStatus) (child : ℕ) → waits_for child (Some s) ≡ true → s ≡ status.Parked child
parked_by (status.Waiting missing) child waits = absurd (cc waits)
parked_by status.Ready child waits = absurd (cc waits)
parked_by status.Running child waits = absurd (cc waits)
parked_by (status.Parked on) child waits = ap status.Parked (eqb-true on child waits)
parked_by status.Ended child waits = absurd (cc waits)
parked_by status.Poisoned child waits = absurd (cc waits)

parked_waits : (s : ActorStatus) (child : ℕ) → s ≡ status.Parked child → waits_for child (Some s) ≡ true
parked_waits s child is = ap (λ t. waits_for child (Some t)) is ∙ nat_same child

pub wakes_one : (job : Job) (w : World) (p : Parts) (child a : ℕ) (known : Known) → Holds job w p → w.why ≡ machine.Going → a < w.count → waits_for child (slice_get p.statuses a) ≡ true → known_at w (Some child) ≡ Some known → IsWoken w child a
wakes_one job w p child a known h going there waits is = record {
  going = going;
  there = there;
  parked = parked_by (w.actors a).status child (ap (waits_for child) (sym (status_there job w p h a there)) ∙ waits);
  known = known;
  is = is;
}

-- an actor that is parked on this one would be its caller
pub wakes_none : (job : Job) (log : Log) (p : Parts) (child caller : ℕ) → Kept job log p → caller ≡ ((after job log).actors child).call.caller → waits_for child (slice_get p.statuses caller) ≡ false → Wakes (after job log) child None
wakes_none job log p child caller k is_caller not_for a woken =
    let waits = parked_waits ((after job log).actors a).status child woken.parked in
    let same : a ≡ caller = callers_wait job log k.is_log child a woken.there waits ∙ sym is_caller in
    cc (sym waits ∙ ap (waits_for child) (sym (status_there job (after job log) p k.holds a woken.there)) ∙ ap (λ j. waits_for child (slice_get p.statuses j)) same ∙ not_for)

pub wakes_nothing : (w : World) (child : ℕ) → known_at w (Some child) ≡ None → Wakes w child None
wakes_nothing w child unknown a woken = cc (sym unknown ∙ woken.is)

pub wakes_beyond : (job : Job) (log : Log) (p : Parts) (child : ℕ) → Kept job log p → (after job log).count ≤ child → Wakes (after job log) child None
wakes_beyond job log p child k past a woken = omega (arith, past, parked_child job log k.is_log a child woken.parked)

-- ---- main at rest

-- its lines and its end where it has ended, and where it waits
pub did_end : (job : Job) (log : Log) (p : Parts) → Kept job log p → (after job log).why ≡ machine.Rest → ((child : ℕ) → ((after job log).actors 0).status ≡ status.Parked child → ⊥) → MainDid job (after job log) p.main_end p.lines
did_end job log p k rest not_parked = at (main_rests job log k.plain k.is_log rest) where
  at : MainRests (after job log) ((after job log).actors 0).status → MainDid job (after job log) p.main_end p.lines
  at (HasEnded is) =
      let e : MainEnded job ((after job log).actors 0) p.lines p.main_end = subst (λ s. MainIs job ((after job log).actors 0) s p.lines p.main_end) is k.holds.main in
      record { stood = e.stood; halts = e.halts; ended = sym e.end_is; printed = sym e.lines_are }
  at (IsParked child is unknown) = absurd (not_parked child is)

pub did_wait : (job : Job) (log : Log) (child : ℕ) (stood : Stood) (frame : Frame) → IsLog job log → ((after job log).actors 0).status ≡ status.Parked child → StandsAt job.image ((after job log).actors 0).start ((after job log).actors 0).told stood frame →
    MainDid job (after job log) end.Waits stood.frame.lines
did_wait job log child stood frame h parked stands = main_waits job log child stood h parked (halts_there job.image ((after job log).actors 0).start ((after job log).actors 0).told stood frame stands)
