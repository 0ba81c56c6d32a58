-- A frame gives its result.
use Rattle.std.proofs.Common.{◌≡◌, ◌<◌, ◌≤◌, ◌+◌, ◌⊎◌, ℕ, ℤ, zero, suc, List, ◌∷◌, [], length, Option, Some, None, Bool, true, false, refl, sym, ap, ◌∙◌, subst, arith, inl, inr, eqb-true, slice_get}
use Rattle.std.specs.Prelude.{IsTrue}
use Rattle.std.specs.Option.{option_map_or}
use Rattle.mpl_value.specs.declared.known.Known.{Known}
use Rattle.mpl_value.specs.declared.known.Known.TheVariants.{Value}
use Rattle.mdf_actor.specs.declared.status.ActorStatus.{ActorStatus}
use Rattle.mdf_actor.specs.declared.status.ActorStatus.TheVariants as status
use Rattle.mdf_code.specs.Alone.{Held, Words}
use Rattle.mdf_code.specs.Frames.{Replies}
use Rattle.mdf_code.specs.Told.{Gave, Stands}
use Rattle.mdf_core.specs.declared.status.MachineStatus.TheVariants.{Going}
use Rattle.mdf_core.specs.Actors.{Actor, Fate, Open}
use Rattle.mdf_core.specs.Enabled.{IsLog, Stops}
use Rattle.mdf_core.specs.Events.{Reply}
use Rattle.mdf_core.specs.Stages.{Halted, HaltsParked}
use Rattle.mdf_core.specs.Steps.{Log, after, tells}
use Rattle.mdf_core.specs.Worlds.{Job, World, acts, fate_at, spends}
use Rattle.mdf_core.proofs.Fates.{gives_open}
use Rattle.mdf_core.proofs.Lists.{same_or}
use Rattle.mdf_core.proofs.Staging.{as_statuses_say}
use Rattle.mdf_core.proofs.TreeOfActors.{tree}
use Rattle.mdf_drive.specs.Handing.{HandsOut}
use Rattle.mdf_drive.proofs.HandedOut.{hands_out_little}
use Rattle.mdf_drive.proofs.Plainness.{main_call_is}
use Rattle.mdf_future.specs.declared.future.Future.{Future}
use Rattle.mdf_future.specs.declared.future.Give.TheVariants as give
use Rattle.mdf_future.specs.Results as results
use Rattle.mdf_match.specs.Data.{HasFewWords}
use Rattle.mdf_machine.specs.declared.parts.Parts.{Parts}
use Rattle.mdf_machine.specs.declared.rows.Row.{Row}
use Rattle.mdf_machine.specs.Internal.Held.{Holds, Kept, kept_fate}
use Rattle.mdf_machine.specs.Internal.Settling.{HasCaller, waits_for, woken}
use Rattle.mdf_machine.proofs.Keeping.{kept_then, runs_on_holds}
use Rattle.mdf_machine.proofs.KnownResults.{CallersWait, settles_holds}
use Rattle.mdf_machine.proofs.One.{One, acts_one}
use Rattle.mdf_machine.proofs.Seen.{child_there, result_there}

-- ---- callers

pub caller_there : (job : Job) (log : Log) → IsLog job log → (c : ℕ) → c < (after job log).count → ((after job log).actors c).call.caller < (after job log).count
caller_there job log is zero there = subst (λ (n : ℕ). n < (after job log).count) (sym (ap (λ call. call.caller) (main_call_is job log is))) there
caller_there job log is (suc c) there = let t = tree job log is in
    let child = t.children ((after job log).actors (suc c)).call.caller ((after job log).actors (suc c)).call.place (suc c) (t.callers (suc c) (omega arith) there) in omega (arith, child.newer, there)

parked_on : (job : Job) (log : Log) → IsLog job log → (c k : ℕ) → (s : ActorStatus) → ((after job log).actors k).status ≡ s → waits_for c (Some s) ≡ true → k ≡ ((after job log).actors c).call.caller
parked_on job log is c k (status.Waiting missing) at waits = absurd (cc waits)
parked_on job log is c k status.Ready at waits = absurd (cc waits)
parked_on job log is c k status.Running at waits = absurd (cc waits)
parked_on job log is c k (status.Parked child) at waits =
    let halted : HaltsParked job ((after job log).actors k) child = subst (Halted job ((after job log).actors k)) at (as_statuses_say job log is k).halted in
    sym (child_there job log is k halted.call child halted.is).caller ∙ ap (λ j. ((after job log).actors j).call.caller) (eqb-true child c waits)
parked_on job log is c k status.Ended at waits = absurd (cc waits)
parked_on job log is c k status.Poisoned at waits = absurd (cc waits)

pub callers_wait : (job : Job) (log : Log) → IsLog job log → (c : ℕ) → CallersWait (after job log) c
callers_wait job log is c k below waits = parked_on job log is c k ((after job log).actors k).status refl waits

pub has_caller : (job : Job) (log : Log) (p : Parts) → Kept job log p → (c : ℕ) → c < (after job log).count → HasCaller p c
has_caller job log p k c there = record {
  status = λ row is. omega (arith, (k.holds.rows.at c row is).caller, caller_there job log k.is_log c there, k.holds.statuses.length_is);
  mark = λ row is. omega (arith, (k.holds.rows.at c row is).caller, caller_there job log k.is_log c there, k.holds.going.length_is);
}

-- ---- what the result is

pub may_give_open : (job : Job) (w : World) (p : Parts) → Holds job w p → (c : ℕ) → c < w.count → fate_at w c ≡ Open → (known : Known) → IsTrue (results.may_give p.results c (give.Known known))
may_give_open job w p h c there opened known = ap (λ o. option_map_or (λ (f : Future). results.may_become f.fate (give.Known known)) o false) (result_there job w p h c there)
    ∙ ap (λ (fate : Fate). results.may_become (kept_fate fate) (give.Known known)) opened

pub few_given : (job : Job) (log : Log) (p : Parts) → Kept job log p → (a turns : ℕ) (words : List ℤ) → Stops job (after job log) a turns (Stands (Replies (Words words))) → HasFewWords (Value words)
few_given job log p k a turns words stops = subst (HandsOut (after job log) a) stops.is (hands_out_little job log k.image k.is_log a turns stops.stood stops.stops)

-- ---- the event

abbrev pub with_known : Parts → ℕ → Known → ℕ → Parts
with_known p a known turns = record p { turns = turns; results = results.settled p.results a known; going = woken p a }

module _ (job : Job) (log : Log) (p : Parts) (a t : ℕ) (words : List ℤ) (k : Kept job log p) (stops : Stops job (after job log) a t (Stands (Replies (Words words)))) where
  one : One a (spends t (tells Gave ((after job log).actors a))) (after job log) (acts a t (tells Gave) (after job log))
  one = acts_one a t (tells Gave) (after job log)

  same : (j : ℕ) → (((acts a t (tells Gave) (after job log)).actors j).status ≡ ((after job log).actors j).status) × (((acts a t (tells Gave) (after job log)).actors j).call ≡ ((after job log).actors j).call)
  same j = at (same_or j a) where
    at : (j ≡ a) ⊎ (j ≡ a → ⊥) → (((acts a t (tells Gave) (after job log)).actors j).status ≡ ((after job log).actors j).status) × (((acts a t (tells Gave) (after job log)).actors j).call ≡ ((after job log).actors j).call)
    at (inl is) = subst (λ i. (((acts a t (tells Gave) (after job log)).actors i).status ≡ ((after job log).actors i).status) × (((acts a t (tells Gave) (after job log)).actors i).call ≡ ((after job log).actors i).call)) (sym is)
        (ap (λ (x : Actor). x.status) one.here, ap (λ (x : Actor). x.call) one.here)
    at (inr differ) = (ap (λ (x : Actor). x.status) (one.others j differ), ap (λ (x : Actor). x.call) (one.others j differ))

  waiting : CallersWait (acts a t (tells Gave) (after job log)) a
  waiting j below waits = callers_wait job log k.is_log a j below (ap (λ s. waits_for a (Some s)) (sym (same j).0) ∙ waits) ∙ ap (λ call. call.caller) (sym (same a).1)

  pub given_kept : (now : Log) (turns : ℕ) → now ≡ Reply a t (Words words) ∷ log → (after job log).why ≡ Going → turns ≡ p.turns + t → Kept job now (with_known p a (Value words) turns)
  given_kept now turns is going turned = subst (λ l. Kept job l (with_known p a (Value words) turns)) (sym is)
      (kept_then job log (Reply a t (Words words)) p (with_known p a (Value words) turns) k going stops
      (settles_holds job (acts a t (tells Gave) (after job log)) (record p { turns = turns }) a (Value words)
      (runs_on_holds job (after job log) p a t (tells Gave) k.holds stops.stops.running stops.stops.running (record { call = refl; ports = refl; child = λ n. refl; fate = refl }) turns turned)
      stops.stops.there waiting (subst (λ (n : ℕ). n < (after job log).count) (ap (λ call. call.caller) (sym (same a).1)) (caller_there job log k.is_log a stops.stops.there)))
      (omega arith))
