-- A result becomes known.
use Rattle.std.proofs.Common.{◌≡◌, ◌<◌, ◌≤◌, ◌+◌, ◌++◌, ◌⊎◌, ℕ, List, ◌∷◌, [], length, map, filter, not, set, Option, Some, None, Bool, true, false, refl, sym, ap, ap₂, ◌∙◌, subst, arith, inl, inr, nat_eq, eqb-true, slice_get}
use Rattle.std.specs.Prelude.{is_some}
use Rattle.std.specs.Option.{option_map_or}
use Rattle.std.proofs.lemmas.List.{map-append}
use Rattle.mpl_value.specs.declared.body.BodyEnd.{BodyEnd}
use Rattle.mpl_value.specs.declared.known.Known.{Known}
use Rattle.mdf_actor.specs.declared.status.ActorStatus.{ActorStatus}
use Rattle.mdf_actor.specs.declared.status.ActorStatus.TheVariants as status
use Rattle.mdf_core.specs.Actors.{Actor, Arc, Fate, Is, known_of}
use Rattle.mdf_core.specs.Calls.{becomes, leads_from}
use Rattle.mdf_core.specs.Worlds.{Job, World, change, fate_at, known_at}
use Rattle.mdf_core.proofs.Lists.{by_bool, nat_same, put_here, put_there, same_or}
use Rattle.mdf_drive.specs.DriveOrder.{goes_on}
use Rattle.mdf_future.specs.Results as results
use Rattle.mdf_future.specs.Consumers.{deliveries}
use Rattle.mdf_future.specs.declared.future.Future.{Future}
use Rattle.mdf_machine.specs.declared.parts.Parts.{Parts}
use Rattle.mdf_machine.specs.declared.rows.Row.{Row}
use Rattle.mdf_machine.specs.Internal.Held.{HasFrame, Holds, MainIs, MarkIs, PortsAre, PutAway, ResultIs, RowOf, consumers_in, due_of, kept_fate}
use Rattle.mdf_machine.specs.Internal.Settling.{waits_for, woken, woken_at, woken_if}
use Rattle.mdf_machine.specs.Internal.Tables.{Each, Keyed}
use Rattle.mdf_machine.proofs.Acting.{ports_one}
use Rattle.mdf_machine.proofs.Arcs.{delivered, none_left, others_left}
use Rattle.mdf_machine.proofs.Changed.{each_as, each_set}
use Rattle.mdf_machine.proofs.Keyed.{keyed_as, keyed_put}
use Rattle.mdf_machine.proofs.Keeping.{row_kept}
use Rattle.mdf_machine.proofs.One.{One, change_one, each_one}
use Rattle.mdf_machine.proofs.Seen.{result_there, row_there, status_there}

-- ---- what another result leaves of an actor

abbrev pub with_fate : Fate → Actor → Actor
with_fate fate x = record x { fate = fate }

pub frame_fate : (job : Job) (x : Actor) (fate : Fate) (s : ActorStatus) (kept : _) → HasFrame job x s kept → HasFrame job (with_fate fate x) s kept
frame_fate job x fate (status.Waiting missing) kept h = tt
frame_fate job x fate status.Ready kept h = tt
frame_fate job x fate status.Running kept h = tt
frame_fate job x fate (status.Parked child) kept h = record { frame = h.frame; is = h.is; stood = h.stood; stands = h.stands }
frame_fate job x fate status.Ended kept h = tt
frame_fate job x fate status.Poisoned kept h = tt

pub main_fate : (job : Job) (x : Actor) (fate : Fate) (s : ActorStatus) (lines : List ℕ) (end : BodyEnd) → MainIs job x s lines end → MainIs job (with_fate fate x) s lines end
main_fate job x fate (status.Waiting missing) lines end h = tt
main_fate job x fate status.Ready lines end h = tt
main_fate job x fate status.Running lines end h = tt
main_fate job x fate (status.Parked child) lines end h = tt
main_fate job x fate status.Ended lines end h = record { stood = h.stood; halts = h.halts; lines_are = h.lines_are; end_is = h.end_is }
main_fate job x fate status.Poisoned lines end h = tt

pub main_with_fate : (job : Job) (w v : World) (c : ℕ) (fate : Fate) (lines : List ℕ) (end : BodyEnd) → One c (with_fate fate (w.actors c)) w v → MainIs job (w.actors 0) (w.actors 0).status lines end → MainIs job (v.actors 0) (v.actors 0).status lines end
main_with_fate job w v c fate lines end one h = at (same_or 0 c) where
  at : (0 ≡ c) ⊎ (0 ≡ c → ⊥) → MainIs job (v.actors 0) (v.actors 0).status lines end
  at (inl is) = subst (λ (x : Actor). MainIs job x x.status lines end) (sym (ap v.actors is ∙ one.here)) (main_fate job (w.actors c) fate (w.actors c).status lines end (subst (λ k. MainIs job (w.actors k) (w.actors k).status lines end) is h))
  at (inr differ) = subst (λ (x : Actor). MainIs job x x.status lines end) (sym (one.others 0 differ)) h

-- statuses stay
pub status_same : (w v : World) (c : ℕ) (fate : Fate) → One c (with_fate fate (w.actors c)) w v → (k : ℕ) → (v.actors k).status ≡ (w.actors k).status
status_same w v c fate one k = at (same_or k c) where
  at : (k ≡ c) ⊎ (k ≡ c → ⊥) → (v.actors k).status ≡ (w.actors k).status
  at (inl is) = ap (λ j. (v.actors j).status) is ∙ ap (λ (x : Actor). x.status) one.here ∙ ap (λ j. (w.actors j).status) (sym is)
  at (inr differ) = ap (λ (x : Actor). x.status) (one.others k differ)

-- ---- who goes on

-- an actor that isn't parked on this one goes on as before
goes_as : (w v : World) (c : ℕ) → ((k : ℕ) → (k ≡ c → ⊥) → fate_at v k ≡ fate_at w k) → (s : ActorStatus) → waits_for c (Some s) ≡ false → goes_on v s ≡ goes_on w s
goes_as w v c same (status.Waiting missing) not_for = refl
goes_as w v c same status.Ready not_for = refl
goes_as w v c same status.Running not_for = refl
goes_as w v c same (status.Parked child) not_for = ap (λ f. is_some (known_of f)) (same child (λ e. absurd (cc (sym (ap (λ j. nat_eq j c) e ∙ nat_same c), not_for))))
goes_as w v c same status.Ended not_for = refl
goes_as w v c same status.Poisoned not_for = refl

goes_now : (v : World) (c : ℕ) (known : Known) → known_at v (Some c) ≡ Some known → (s : ActorStatus) → waits_for c (Some s) ≡ true → goes_on v s ≡ true
goes_now v c known is (status.Waiting missing) waits = absurd (cc waits)
goes_now v c known is status.Ready waits = absurd (cc waits)
goes_now v c known is status.Running waits = absurd (cc waits)
goes_now v c known is (status.Parked child) waits = ap (λ j. is_some (known_at v (Some j))) (eqb-true child c waits) ∙ ap is_some is
goes_now v c known is status.Ended waits = absurd (cc waits)
goes_now v c known is status.Poisoned waits = absurd (cc waits)

-- who is parked on an actor is its caller
abbrev pub CallersWait : World → ℕ → Type 0
CallersWait w c = (k : ℕ) → k < w.count → waits_for c (Some (w.actors k).status) ≡ true → k ≡ (w.actors c).call.caller

module _ (job : Job) (w : World) (p : Parts) (c : ℕ) (known : Known) (h : Holds job w p) (there : c < w.count) (callers : CallersWait w c) (caller_there : (w.actors c).call.caller < w.count) where
  abbrev v : World
  v = becomes c known w

  one : One c (with_fate (Is known) (w.actors c)) w (becomes c known w)
  one = record { here = put_here c (with_fate (Is known) (w.actors c)) w.actors; others = λ k differ. put_there c k (with_fate (Is known) (w.actors c)) w.actors differ }

  fate_here : fate_at (becomes c known w) c ≡ Is known
  fate_here = ap (λ (x : Actor). x.fate) one.here

  fate_there : (k : ℕ) → (k ≡ c → ⊥) → fate_at (becomes c known w) k ≡ fate_at w k
  fate_there k differ = ap (λ (x : Actor). x.fate) (one.others k differ)

  mark_else : (k : ℕ) (mark : Bool) → MarkIs w k mark → waits_for c (Some (w.actors k).status) ≡ false → MarkIs (becomes c known w) k mark
  mark_else k mark is not_for = is ∙ sym (goes_as w v c fate_there (w.actors k).status not_for) ∙ ap (goes_on v) (sym (status_same w v c (Is known) one k))

  marks_at : (row : Row) → RowOf job (w.actors c) row → (b : Bool) → waits_for c (slice_get p.statuses row.caller) ≡ b → Each (MarkIs (becomes c known w)) w.count (woken_if p.going row.caller b)
  marks_at row r true e =
      let here : waits_for c (Some (w.actors (w.actors c).call.caller).status) ≡ true = ap (waits_for c) (sym (ap (slice_get p.statuses) r.caller ∙ status_there job w p h (w.actors c).call.caller caller_there)) ∙ e in
      each_set (MarkIs w) (MarkIs v) w.count w.count row.caller true p.going h.going refl
      (sym (goes_now v c known (ap known_of fate_here) (v.actors row.caller).status (ap (λ j. waits_for c (Some (v.actors j).status)) r.caller ∙ ap (λ s. waits_for c (Some s)) (status_same w v c (Is known) one (w.actors c).call.caller) ∙ here)))
      (λ k mark below differ is. mark_else k mark is (by_bool (waits_for c (Some (w.actors k).status)) (λ t. absurd (differ (callers k below t ∙ sym r.caller))) (λ f. f)))
  marks_at row r false e =
      let here : waits_for c (Some (w.actors (w.actors c).call.caller).status) ≡ false = ap (waits_for c) (sym (ap (slice_get p.statuses) r.caller ∙ status_there job w p h (w.actors c).call.caller caller_there)) ∙ e in
      each_as (MarkIs w) (MarkIs v) w.count w.count p.going h.going refl
      (λ k mark below is. mark_else k mark is (by_bool (waits_for c (Some (w.actors k).status)) (λ t. absurd (cc (sym t ∙ ap (λ j. waits_for c (Some (w.actors j).status)) (callers k below t) ∙ here))) (λ f. f)))

  marks : Each (MarkIs (becomes c known w)) w.count (woken p c)
  marks = let i = row_there job w p h c there in subst (Each (MarkIs (becomes c known w)) w.count) (sym (ap (woken_at p c) i.1)) (marks_at i.0 i.2 (waits_for c (slice_get p.statuses i.0.caller)) refl)

  pub settles_holds : Holds job (becomes c known w) (record p { results = results.settled p.results c known; going = woken p c })
  settles_holds = record {
    statuses = each_one (λ x s. s ≡ x.status) c (with_fate (Is known) (w.actors c)) w v w.count w.count p.statuses one h.statuses refl (λ s e. e);
    rows = each_one (RowOf job) c (with_fate (Is known) (w.actors c)) w v w.count w.count p.rows one h.rows refl
        (λ row r. record { caller = r.caller; member = r.member; ports = r.ports; children = r.children; frame = frame_fate job (w.actors c) (Is known) (w.actors c).status row.frame r.frame });
    ports = keyed_as (PortsAre w) (PortsAre v) w.count w.count p.ports h.ports refl (λ k row below is. is ∙ sym (ports_one c (with_fate (Is known) (w.actors c)) w v one refl k));
    results = keyed_put (ResultIs w) (ResultIs v) w.count w.count c _ p.results.results h.results refl there
        (ap₂ (λ (fate : Fate) cs. record { fate = kept_fate fate; consumers = cs }) (sym fate_here) (sym (none_left c w.waits)))
        (λ k (future : Future) below differ is. is ∙ ap₂ (λ (fate : Fate) cs. record { fate = kept_fate fate; consumers = cs }) (sym (fate_there k differ)) (sym (others_left c k w.waits differ)));
    due = ap₂ (λ ds cs. ds ++ deliveries c cs) h.due (ap (λ o. option_map_or (λ (f : Future). f.consumers) o []) (result_there job w p h c there))
        ∙ ap (λ ds. map due_of w.due ++ ds) (delivered c w.waits) ∙ sym (map-append due_of w.due (filter (leads_from c) w.waits));
    going = marks;
    turns = h.turns;
    why = h.why;
    main = main_with_fate job w v c (Is known) p.lines p.main_end one h.main;
    few = h.few;
  }
