-- What holds of statuses, ports and calls along a log, and what follows: who is out, which frames stay, and the turns.
use Rattle.std.proofs.Common.{◌≡◌, ◌≤◌, ◌⊎◌, ℕ, suc, true, false, cond, List, [], ◌∷◌, refl, sym, ap, ◌∙◌, subst, inl, inr, arith}
use Rattle.mdf_actor.specs.declared.status.ActorStatus.{ActorStatus}
use Rattle.mdf_actor.specs.declared.status.ActorStatus.TheVariants as status
use Rattle.mdf_match.specs.Ports.{missing_in}
use Rattle.mdf_core.specs.Actors.{Actor}
use Rattle.mdf_core.specs.Enabled.{IsLog}
use Rattle.mdf_core.specs.Events.{Event}
use Rattle.mdf_core.specs.Naming.{is_running}
use Rattle.mdf_core.specs.Steps.{Log, after, step}
use Rattle.mdf_core.specs.Worlds.{Job, World, is_in}
use Rattle.mdf_core.proofs.Changes.{MissesAt, Quiet}
use Rattle.mdf_core.proofs.EachStep.{Change, ByActor, ByCall, ByToken, ByArrival, ByAccept, ByEnd, OfActor, OfCall, OfArrival, OfAccept, OfEnd, OfFrame, changes, is_waiting}
use Rattle.mdf_core.proofs.Lists.{nat_differ, nat_same, same_or}
use Rattle.mdf_core.proofs.Transitions.{Came, Filled}

-- ---- an actor

pub record Standing (w : World) (a : ℕ) : Type 0 where
  -- its status tells how many ports are missing
  pub misses : MissesAt (w.actors a).status (missing_in (w.actors a).ports)
  -- where its call arrived and wasn't accepted, it waits with all arguments known
  pub waits : is_in a w.arrived ≡ true → is_in a w.accepted ≡ false → (w.actors a).status ≡ status.Waiting 0
  -- where there is no such actor, nothing came
  pub beyond : w.count ≤ a → ((w.actors a).status ≡ status.Ready) × (is_in a w.arrived ≡ false)

abbrev AllStand : World → Type 0
AllStand w = (a : ℕ) → Standing w a

not_waiting : (s : ActorStatus) (n : ℕ) → is_waiting s ≡ false → s ≡ status.Waiting n → ⊥
not_waiting s n h e = absurd (cc (h, ap is_waiting e))

misses_none : (s : ActorStatus) (n : ℕ) → is_waiting s ≡ false → MissesAt s n → n ≡ 0
misses_none (status.Waiting m) n h k = absurd (cc h)
misses_none status.Ready n h k = k
misses_none status.Running n h k = k
misses_none (status.Parked child) n h k = k
misses_none status.Ended n h k = k
misses_none status.Poisoned n h k = k

none_misses : (s : ActorStatus) (n : ℕ) → is_waiting s ≡ false → n ≡ 0 → MissesAt s n
none_misses (status.Waiting m) n h k = absurd (cc h)
none_misses status.Ready n h k = k
none_misses status.Running n h k = k
none_misses (status.Parked child) n h k = k
none_misses status.Ended n h k = k
none_misses status.Poisoned n h k = k

pub running_misses : (s : ActorStatus) (n : ℕ) → is_running s ≡ true → MissesAt s n → n ≡ 0
running_misses (status.Waiting m) n h k = absurd (cc h)
running_misses status.Ready n h k = absurd (cc h)
running_misses status.Running n h k = k
running_misses (status.Parked child) n h k = absurd (cc h)
running_misses status.Ended n h k = absurd (cc h)
running_misses status.Poisoned n h k = absurd (cc h)

pub missing_waits : (s : ActorStatus) (n : ℕ) → MissesAt s (suc n) → is_running s ≡ false
missing_waits (status.Waiting m) n k = refl
missing_waits status.Ready n k = refl
missing_waits status.Running n k = absurd (omega (arith, k))
missing_waits (status.Parked child) n k = refl
missing_waits status.Ended n k = refl
missing_waits status.Poisoned n k = refl

-- nothing that is said of an actor has changed
stands_same : (w v : World) (k : ℕ) → v.actors k ≡ w.actors k → is_in k v.arrived ≡ is_in k w.arrived → is_in k v.accepted ≡ is_in k w.accepted → (v.count ≤ k → w.count ≤ k) → Standing w k → Standing v k
stands_same w v k actor arrived accepted count s = record {
  misses = subst (λ (x : Actor). MissesAt x.status (missing_in x.ports)) (sym actor) s.misses;
  waits = λ h l. ap (λ (x : Actor). x.status) actor ∙ s.waits (sym arrived ∙ h) (sym accepted ∙ l);
  beyond = λ h. (ap (λ (x : Actor). x.status) actor ∙ (s.beyond (count h)).0, arrived ∙ (s.beyond (count h)).1);
}

in_other : (k a : ℕ) (later : List ℕ) → (a ≡ k → ⊥) → is_in k (a ∷ later) ≡ is_in k later
in_other k a later h = ap (λ b. cond b true (is_in k later)) (nat_differ a k h)

in_here : (a : ℕ) (later : List ℕ) → is_in a (a ∷ later) ≡ true
in_here a later = ap (λ b. cond b true (is_in a later)) (nat_same a)

-- ---- each kind of change

-- an actor whose frame an event is of
framed_stands : (w v : World) (e : Event) (a : ℕ) (f : Actor → Actor) → OfFrame w e a f → (v.actors a).status ≡ (f (w.actors a)).status → (v.actors a).ports ≡ (w.actors a).ports →
    is_in a v.arrived ≡ is_in a w.arrived → is_in a v.accepted ≡ is_in a w.accepted → (v.count ≤ a → w.count ≤ a) → Standing w a → Standing v a
framed_stands w v e a f o status_is ports arrived accepted count s = record {
  misses = subst (λ t. MissesAt t (missing_in (v.actors a).ports)) (sym status_is)
      (none_misses (f (w.actors a)).status (missing_in (v.actors a).ports) o.stays (ap missing_in ports ∙ misses_none (w.actors a).status (missing_in (w.actors a).ports) o.ready s.misses));
  waits = λ h l. absurd (not_waiting (w.actors a).status 0 o.ready (s.waits (sym arrived ∙ h) (sym accepted ∙ l)));
  beyond = λ h. absurd (omega (arith, count h, o.there));
}

by_actor : (w v : World) (e : Event) → OfActor w e v → AllStand w → AllStand v
by_actor w v e o s k = at (same_or k o.actor) where
  at : (k ≡ o.actor) ⊎ (k ≡ o.actor → ⊥) → Standing v k
  at (inl same) = subst (Standing v) (sym same) (framed_stands w v e o.actor o.does o.frame o.acted.frame.status o.acted.ports (ap (is_in o.actor) o.acted.lists.arrived) (ap (is_in o.actor) o.acted.lists.accepted)
      (λ h. subst (λ n. n ≤ o.actor) o.acted.lists.count h) (s o.actor))
  at (inr differ) = stands_same w v k (o.acted.others k differ) (ap (is_in k) o.acted.lists.arrived) (ap (is_in k) o.acted.lists.accepted) (λ h. subst (λ n. n ≤ k) o.acted.lists.count h) (s k)

by_call : (job : Job) (w v : World) (e : Event) → OfCall job w e v → AllStand w → AllStand v
by_call job w v e o s k = at (same_or k o.actor) (same_or k w.count) where
  more : (j : ℕ) → v.count ≤ j → w.count ≤ j
  more j h = omega (arith, h, o.sent.count)

  at : (k ≡ o.actor) ⊎ (k ≡ o.actor → ⊥) → (k ≡ w.count) ⊎ (k ≡ w.count → ⊥) → Standing v k
  at (inl same) new = subst (Standing v) (sym same) (framed_stands w v e o.actor o.does o.frame o.sent.frame.status o.sent.ports (ap (is_in o.actor) o.sent.arrived) (ap (is_in o.actor) o.sent.accepted)
      (more o.actor) (s o.actor))
  at (inr differ) (inr old) = stands_same w v k (o.sent.others k differ old) (ap (is_in k) o.sent.arrived) (ap (is_in k) o.sent.accepted) (more k) (s k)
  at (inr differ) (inl same) = subst (Standing v) (sym same) (record {
    misses = o.sent.misses;
    waits = λ h l. absurd (cc (h, ap (is_in w.count) o.sent.arrived ∙ ((s w.count).beyond (omega arith)).1));
    beyond = λ h. absurd (omega (arith, h, o.sent.count));
  })

by_quiet : (w v : World) (c : ℕ) → Quiet c w v → AllStand w → AllStand v
by_quiet w v c q s k = at (same_or k c) where
  count : v.count ≤ k → w.count ≤ k
  count h = subst (λ n. n ≤ k) q.only.lists.count h

  at : (k ≡ c) ⊎ (k ≡ c → ⊥) → Standing v k
  at (inr differ) = stands_same w v k (q.only.others k differ) (ap (is_in k) q.only.lists.arrived) (ap (is_in k) q.only.lists.accepted) count (s k)
  at (inl same) = let status_is : (v.actors k).status ≡ (w.actors k).status = subst (λ d. (v.actors d).status ≡ (w.actors d).status) (sym same) q.frame.status in
      let ports : (v.actors k).ports ≡ (w.actors k).ports = subst (λ d. (v.actors d).ports ≡ (w.actors d).ports) (sym same) q.only.ports in record {
        misses = subst (λ p. MissesAt (v.actors k).status (missing_in p)) (sym ports) (subst (λ t. MissesAt t (missing_in (w.actors k).ports)) (sym status_is) (s k).misses);
        waits = λ h l. status_is ∙ (s k).waits (sym (ap (is_in k) q.only.lists.arrived) ∙ h) (sym (ap (is_in k) q.only.lists.accepted) ∙ l);
        beyond = λ h. (status_is ∙ ((s k).beyond (count h)).0, ap (is_in k) q.only.lists.arrived ∙ ((s k).beyond (count h)).1);
      }

-- an actor with a missing port is there, and its call didn't arrive
filled_open : (w : World) (c n m : ℕ) → missing_in (w.actors c).ports ≡ suc n → (w.actors c).status ≡ status.Waiting 0 → MissesAt (w.actors c).status (missing_in (w.actors c).ports) → ⊥
filled_open w c n m missed is h = absurd (omega (arith, missed, subst (λ t. MissesAt t (missing_in (w.actors c).ports)) is h))

filled_there : (w : World) (c n : ℕ) → missing_in (w.actors c).ports ≡ suc n → (w.actors c).status ≡ status.Ready → MissesAt (w.actors c).status (missing_in (w.actors c).ports) → ⊥
filled_there w c n missed is h = absurd (omega (arith, missed, subst (λ t. MissesAt t (missing_in (w.actors c).ports)) is h))

by_filled : (w v : World) (c : ℕ) → Filled c w v → AllStand w → AllStand v
by_filled w v c f s k = at (same_or k c) where
  at : (k ≡ c) ⊎ (k ≡ c → ⊥) → Standing v k
  at (inr differ) = stands_same w v k (f.others k differ) (ap (is_in k) f.lists.arrived) (ap (is_in k) f.lists.accepted) (λ h. subst (λ n. n ≤ k) f.lists.count h) (s k)
  at (inl same) = subst (Standing v) (sym same) (record {
    misses = f.misses;
    waits = λ h l. absurd (filled_open w c f.before 0 f.missed ((s c).waits (sym (ap (is_in c) f.lists.arrived) ∙ h) (sym (ap (is_in c) f.lists.accepted) ∙ l)) (s c).misses);
    beyond = λ h. absurd (filled_there w c f.before f.missed ((s c).beyond (subst (λ n. n ≤ c) f.lists.count h)).0 (s c).misses);
  })

by_came : (w v : World) → Came w v → AllStand w → AllStand v
by_came w v (c, inl q) s = by_quiet w v c q s
by_came w v (c, inr f) s = by_filled w v c f s

by_arrival : (w v : World) (e : Event) → OfArrival w e v → AllStand w → AllStand v
by_arrival w v e o s k = at (same_or o.actor k) where
  actor : v.actors k ≡ w.actors k
  actor = ap (λ (f : ℕ → Actor). f k) o.actors

  count : v.count ≤ k → w.count ≤ k
  count h = subst (λ n. n ≤ k) o.count h

  at : (o.actor ≡ k) ⊎ (o.actor ≡ k → ⊥) → Standing v k
  at (inr differ) = stands_same w v k actor (ap (is_in k) o.arrived ∙ in_other k o.actor w.arrived differ) (ap (is_in k) o.accepted) count (s k)
  at (inl same) = record {
    misses = subst (λ (x : Actor). MissesAt x.status (missing_in x.ports)) (sym actor) (s k).misses;
    waits = λ h l. ap (λ (x : Actor). x.status) actor ∙ subst (λ d. (w.actors d).status ≡ status.Waiting 0) same o.complete;
    beyond = λ h. absurd (omega (arith, count h, o.there, same));
  }

by_accept : (w v : World) (e : Event) → OfAccept w e v → AllStand w → AllStand v
by_accept w v e o s k = at (same_or k o.actor) where
  count : (j : ℕ) → v.count ≤ j → w.count ≤ j
  count j h = subst (λ n. n ≤ j) o.count h

  complete : (w.actors o.actor).status ≡ status.Waiting 0
  complete = (s o.actor).waits o.came o.first

  at : (k ≡ o.actor) ⊎ (k ≡ o.actor → ⊥) → Standing v k
  at (inr differ) = stands_same w v k (o.others k differ) (ap (is_in k) o.arrived) (ap (is_in k) o.accepted ∙ in_other k o.actor w.accepted (λ e. differ (sym e))) (count k) (s k)
  at (inl same) = subst (Standing v) (sym same) (record {
    misses = subst (λ t. MissesAt t (missing_in (v.actors o.actor).ports)) (sym o.status)
        (ap missing_in o.ports ∙ subst (λ t. MissesAt t (missing_in (w.actors o.actor).ports)) complete (s o.actor).misses);
    waits = λ h l. absurd (cc (l, ap (is_in o.actor) o.accepted ∙ in_here o.actor w.accepted));
    beyond = λ h. absurd (cc (o.came, ((s o.actor).beyond (count o.actor h)).1));
  })

by_end : (w v : World) (e : Event) → OfEnd w e v → AllStand w → AllStand v
by_end w v e o s k = stands_same w v k (ap (λ (f : ℕ → Actor). f k) o.actors) (ap (is_in k) o.arrived) (ap (is_in k) o.accepted) (λ h. subst (λ n. n ≤ k) o.count h) (s k)

change_stands : (job : Job) (w : World) (e : Event) (v : World) → Change job w e v → AllStand w → AllStand v
change_stands job w e v (ByActor o) s = by_actor w v e o s
change_stands job w e v (ByCall o) s = by_call job w v e o s
change_stands job w e v (ByToken o) s = by_came w v o.came s
change_stands job w e v (ByArrival o) s = by_arrival w v e o s
change_stands job w e v (ByAccept o) s = by_accept w v e o s
change_stands job w e v (ByEnd o) s = by_end w v e o s

pub stand : (job : Job) (log : Log) → IsLog job log → AllStand (after job log)
stand job [] h = λ a. record { misses = refl; waits = λ h l. absurd (cc h); beyond = λ h. (refl, refl) }
stand job (e ∷ log) h = change_stands job (after job log) e (step job (after job log) e) (changes job (after job log) e h.0.1) (stand job log h.1)
