-- Who is out along a log, which frames stay as they are, and what the turns are.
use Rattle.std.proofs.Common.{◌≡◌, ◌+◌, ◌⊎◌, ◌||◌, ℕ, suc, Bool, true, false, cond, [], ◌∷◌, ◌++◌, None, refl, sym, ap, ◌∙◌, subst, inl, inr, arith, nat_eq}
use Rattle.mdf_actor.specs.declared.status.ActorStatus.TheVariants as status
use Rattle.mdf_match.specs.Ports.{missing_in}
use Rattle.mdf_core.specs.Actors.{Actor}
use Rattle.mdf_core.specs.Enabled.{IsLog}
use Rattle.mdf_core.specs.Events.{Event}
use Rattle.mdf_core.specs.Naming.{SameFrame, is_running, names, spent_in, sum_below}
use Rattle.mdf_core.specs.Out.{actor_of, is_actor, is_out, moved, moves}
use Rattle.mdf_core.specs.Steps.{Log, after, step}
use Rattle.mdf_core.specs.Worlds.{Job, World}
use Rattle.mdf_core.proofs.Changes.{MissesAt, same_frame, frame_then}
use Rattle.mdf_core.proofs.EachStep.{Change, ByActor, ByCall, ByToken, ByArrival, ByAccept, ByEnd, OfFrame, changes}
use Rattle.mdf_core.proofs.Lists.{nat_differ, nat_same, same_or, counted_below, sum_more, sum_same}
use Rattle.mdf_core.proofs.Standing.{Standing, missing_waits, running_misses, stand}
use Rattle.mdf_core.proofs.Transitions.{Came}

-- ---- out

-- an event tells who is out behind it, where runs is who was before
abbrev OutAt : Event → ℕ → Bool → Bool
OutAt e a before = cond (is_actor a (actor_of e)) (moved before (moves e)) before

abbrev Tells : World → Event → World → ℕ → Type 0
Tells w e v a = OutAt e a (is_running (w.actors a).status) ≡ is_running (v.actors a).status

tells_unnamed : (w v : World) (e : Event) (a : ℕ) → is_actor a (actor_of e) ≡ false → is_running (w.actors a).status ≡ is_running (v.actors a).status → Tells w e v a
tells_unnamed w v e a h same = ap (λ b. cond b (moved (is_running (w.actors a).status) (moves e)) (is_running (w.actors a).status)) h ∙ same

tells_none : (w v : World) (e : Event) (a : ℕ) → actor_of e ≡ None → is_running (w.actors a).status ≡ is_running (v.actors a).status → Tells w e v a
tells_none w v e a h same = tells_unnamed w v e a (ap (is_actor a) h) same

tells_named : (w v : World) (e : Event) (a : ℕ) (f : Actor → Actor) → OfFrame w e a f → (v.actors a).status ≡ (f (w.actors a)).status → Tells w e v a
tells_named w v e a f o same =
    ap (λ b. cond b (moved (is_running (w.actors a).status) (moves e)) (is_running (w.actors a).status)) (ap (is_actor a) o.named ∙ nat_same a)
    ∙ (o.runs ∙ sym (ap is_running same))

other_actor : (w : World) (e : Event) (a k : ℕ) (f : Actor → Actor) → OfFrame w e a f → (k ≡ a → ⊥) → is_actor k (actor_of e) ≡ false
other_actor w e a k f o h = ap (is_actor k) o.named ∙ nat_differ a k (λ s. h (sym s))

same_runs : (w v : World) (a : ℕ) → v.actors a ≡ w.actors a → is_running (w.actors a).status ≡ is_running (v.actors a).status
same_runs w v a h = sym (ap (λ (x : Actor). is_running x.status) h)

came_runs : (w v : World) → Came w v → ((a : ℕ) → Standing w a) → (k : ℕ) → is_running (w.actors k).status ≡ is_running (v.actors k).status
came_runs w v (c, inl q) s k = at (same_or k c) where
  at : (k ≡ c) ⊎ (k ≡ c → ⊥) → is_running (w.actors k).status ≡ is_running (v.actors k).status
  at (inl same) = subst (λ d. is_running (w.actors d).status ≡ is_running (v.actors d).status) (sym same) (sym (ap is_running q.frame.status))
  at (inr differ) = same_runs w v k (q.only.others k differ)
came_runs w v (c, inr f) s k = at (same_or k c) where
  at : (k ≡ c) ⊎ (k ≡ c → ⊥) → is_running (w.actors k).status ≡ is_running (v.actors k).status
  at (inl same) = subst (λ d. is_running (w.actors d).status ≡ is_running (v.actors d).status) (sym same)
      (missing_waits (w.actors c).status f.before (subst (MissesAt (w.actors c).status) f.missed (s c).misses) ∙ sym f.waits)
  at (inr differ) = same_runs w v k (f.others k differ)

tells : (job : Job) (w v : World) (e : Event) → Change job w e v → ((a : ℕ) → Standing w a) → (k : ℕ) → Tells w e v k
tells job w v e (ByActor o) s k = at (same_or k o.actor) where
  at : (k ≡ o.actor) ⊎ (k ≡ o.actor → ⊥) → Tells w e v k
  at (inl same) = subst (Tells w e v) (sym same) (tells_named w v e o.actor o.does o.frame o.acted.frame.status)
  at (inr differ) = tells_unnamed w v e k (other_actor w e o.actor k o.does o.frame differ) (same_runs w v k (o.acted.others k differ))
tells job w v e (ByCall o) s k = at (same_or k o.actor) (same_or k w.count) where
  at : (k ≡ o.actor) ⊎ (k ≡ o.actor → ⊥) → (k ≡ w.count) ⊎ (k ≡ w.count → ⊥) → Tells w e v k
  at (inl same) new = subst (Tells w e v) (sym same) (tells_named w v e o.actor o.does o.frame o.sent.frame.status)
  at (inr differ) (inr old) = tells_unnamed w v e k (other_actor w e o.actor k o.does o.frame differ) (same_runs w v k (o.sent.others k differ old))
  at (inr differ) (inl same) = tells_unnamed w v e k (other_actor w e o.actor k o.does o.frame differ)
      (subst (λ d. is_running (w.actors d).status ≡ is_running (v.actors d).status) (sym same) (ap is_running ((s w.count).beyond (omega arith)).0 ∙ sym o.sent.waits))
tells job w v e (ByToken o) s k = tells_none w v e k o.named (came_runs w v o.came s k)
tells job w v e (ByArrival o) s k = tells_none w v e k o.named (same_runs w v k (ap (λ (f : ℕ → Actor). f k) o.actors))
tells job w v e (ByAccept o) s k = at (same_or k o.actor) where
  at : (k ≡ o.actor) ⊎ (k ≡ o.actor → ⊥) → Tells w e v k
  at (inl same) = tells_none w v e k o.named
      (subst (λ d. is_running (w.actors d).status ≡ is_running (v.actors d).status) (sym same) (ap is_running ((s o.actor).waits o.came o.first) ∙ sym (ap is_running o.status)))
  at (inr differ) = tells_none w v e k o.named (same_runs w v k (o.others k differ))
tells job w v e (ByEnd o) s k = tells_none w v e k o.named (same_runs w v k (ap (λ (f : ℕ → Actor). f k) o.actors))

pub out_runs : (job : Job) (log : Log) (a : ℕ) → IsLog job log → is_out log a ≡ is_running ((after job log).actors a).status
out_runs job [] a h = refl
out_runs job (e ∷ log) a h =
    ap (OutAt e a) (out_runs job log a h.1) ∙ tells job (after job log) (step job (after job log) e) e (changes job (after job log) e h.0.1) (stand job log h.1) a

-- ---- frames

same_actor : (w v : World) (k : ℕ) → v.actors k ≡ w.actors k → SameFrame (w.actors k) (v.actors k)
same_actor w v k h = subst (SameFrame (w.actors k)) (sym h) (same_frame (w.actors k))

came_frame : (w v : World) → Came w v → ((a : ℕ) → Standing w a) → (k : ℕ) → is_running (w.actors k).status ≡ true → SameFrame (w.actors k) (v.actors k)
came_frame w v (c, inl q) s k runs = at (same_or k c) where
  at : (k ≡ c) ⊎ (k ≡ c → ⊥) → SameFrame (w.actors k) (v.actors k)
  at (inl same) = subst (λ d. SameFrame (w.actors d) (v.actors d)) (sym same) q.frame
  at (inr differ) = same_actor w v k (q.only.others k differ)
came_frame w v (c, inr f) s k runs = same_actor w v k (f.others k (λ same. absurd (omega (
  arith,
  f.missed,
  running_misses (w.actors c).status (missing_in (w.actors c).ports) (subst (λ d. is_running (w.actors d).status ≡ true) same runs) (s c).misses,
))))

-- the frame of an actor that runs, where an event isn't of it
frame_stays : (job : Job) (w v : World) (e : Event) → Change job w e v → ((a : ℕ) → Standing w a) → (k : ℕ) → is_actor k (actor_of e) ≡ false → is_running (w.actors k).status ≡ true →
    SameFrame (w.actors k) (v.actors k)
frame_stays job w v e (ByActor o) s k unnamed runs = same_actor w v k (o.acted.others k (λ same. absurd (cc (unnamed, ap (is_actor k) o.frame.named ∙ (ap (λ d. nat_eq d k) (sym same) ∙ nat_same k)))))
frame_stays job w v e (ByCall o) s k unnamed runs = same_actor w v k (o.sent.others k
    (λ same. absurd (cc (unnamed, ap (is_actor k) o.frame.named ∙ (ap (λ d. nat_eq d k) (sym same) ∙ nat_same k))))
    (λ same. absurd (cc (runs, ap is_running (subst (λ d. (w.actors d).status ≡ status.Ready) (sym same) ((s w.count).beyond (omega arith)).0)))))
frame_stays job w v e (ByToken o) s k unnamed runs = came_frame w v o.came s k runs
frame_stays job w v e (ByArrival o) s k unnamed runs = same_actor w v k (ap (λ (f : ℕ → Actor). f k) o.actors)
frame_stays job w v e (ByAccept o) s k unnamed runs = same_actor w v k (o.others k
    (λ same. absurd (cc (runs, ap is_running (subst (λ d. (w.actors d).status ≡ status.Waiting 0) (sym same) ((s o.actor).waits o.came o.first))))))
frame_stays job w v e (ByEnd o) s k unnamed runs = same_actor w v k (ap (λ (f : ℕ → Actor). f k) o.actors)

or_split : (a b : Bool) → (a || b) ≡ false → (a ≡ false) × (b ≡ false)
or_split true b h = absurd (cc h)
or_split false b h = (refl, h)

front : (job : Job) (more log : Log) → IsLog job (more ++ log) → IsLog job log
front job [] log h = h
front job (e ∷ more) log h = front job more log h.1

running_stays : (job : Job) (more log : Log) (a : ℕ) → IsLog job (more ++ log) → is_running ((after job log).actors a).status ≡ true → names a more ≡ false →
    SameFrame ((after job log).actors a) ((after job (more ++ log)).actors a)
running_stays job [] log a h runs unnamed = same_frame ((after job log).actors a)
running_stays job (e ∷ more) log a h runs unnamed =
    let parts = or_split (is_actor a (actor_of e)) (names a more) unnamed in let w = after job (more ++ log) in let before = running_stays job more log a h.1 runs parts.1 in
    frame_then ((after job log).actors a) (w.actors a) ((step job w e).actors a) before
    (frame_stays job w (step job w e) e (changes job w e h.0.1) (stand job (more ++ log) h.1) a parts.0 (ap is_running before.status ∙ runs))

pub out_stays : (job : Job) (more log : Log) (a : ℕ) → IsLog job (more ++ log) → is_out log a ≡ true → names a more ≡ false →
    SameFrame ((after job log).actors a) ((after job (more ++ log)).actors a)
out_stays job more log a h out unnamed = running_stays job more log a h (sym (out_runs job log a (front job more log h)) ∙ out) unnamed

-- ---- turns

abbrev spent_at : World → ℕ → ℕ
spent_at w a = (w.actors a).spent

same_sum : (w v : World) → v.count ≡ w.count → v.turns ≡ w.turns → ((k : ℕ) → spent_at v k ≡ spent_at w k) → w.turns ≡ spent_in w → v.turns ≡ spent_in v
same_sum w v count turns same h = turns ∙ (h ∙ (sym (sum_same w.count (spent_at w) (spent_at v) (λ k l. same k)) ∙ ap (λ n. sum_below n (spent_at v)) (sym count)))

sums : (job : Job) (w v : World) (e : Event) → Change job w e v → w.turns ≡ spent_in w → v.turns ≡ spent_in v
sums job w v e (ByActor o) h =
    o.acted.turns ∙ (ap (λ n. n + o.turns) h
    ∙ (sym (sum_more w.count o.actor o.turns (spent_at w) (spent_at v) o.frame.there (λ k d. ap (λ (x : Actor). x.spent) (o.acted.others k d)) o.acted.spent)
    ∙ ap (λ n. sum_below n (spent_at v)) (sym o.acted.lists.count)))
sums job w v e (ByCall o) h = omega (arith, o.sent.turns, h, old, new, o.sent.free) where
  old : sum_below w.count (spent_at v) ≡ sum_below w.count (spent_at w) + o.turns
  old = counted_below w.count o.actor o.turns (spent_at w) (spent_at v) o.frame.there (λ k l d. ap (λ (x : Actor). x.spent) (o.sent.others k d (λ same. absurd (omega (arith, l, same))))) o.sent.spent

  new : sum_below v.count (spent_at v) ≡ sum_below w.count (spent_at v) + spent_at v w.count
  new = ap (λ n. sum_below n (spent_at v)) (o.sent.count ∙ plus_one w.count) where
    plus_one : (n : ℕ) → n + 1 ≡ suc n
    plus_one n = omega arith
sums job w v e (ByToken o) h = came_sums o.came where
  came_sums : Came w v → v.turns ≡ spent_in v
  came_sums (c, inl q) = same_sum w v q.only.lists.count q.only.turns (λ k. at k (same_or k c)) h where
    at : (k : ℕ) → (k ≡ c) ⊎ (k ≡ c → ⊥) → spent_at v k ≡ spent_at w k
    at k (inl same) = subst (λ d. spent_at v d ≡ spent_at w d) (sym same) q.only.spent
    at k (inr differ) = ap (λ (x : Actor). x.spent) (q.only.others k differ)
  came_sums (c, inr f) = same_sum w v f.lists.count f.turns (λ k. at k (same_or k c)) h where
    at : (k : ℕ) → (k ≡ c) ⊎ (k ≡ c → ⊥) → spent_at v k ≡ spent_at w k
    at k (inl same) = subst (λ d. spent_at v d ≡ spent_at w d) (sym same) f.spent
    at k (inr differ) = ap (λ (x : Actor). x.spent) (f.others k differ)
sums job w v e (ByArrival o) h = same_sum w v o.count o.turns (λ k. ap (λ (f : ℕ → Actor). (f k).spent) o.actors) h
sums job w v e (ByAccept o) h = same_sum w v o.count o.turns (λ k. at k (same_or k o.actor)) h where
  at : (k : ℕ) → (k ≡ o.actor) ⊎ (k ≡ o.actor → ⊥) → spent_at v k ≡ spent_at w k
  at k (inl same) = subst (λ d. spent_at v d ≡ spent_at w d) (sym same) o.spent
  at k (inr differ) = ap (λ (x : Actor). x.spent) (o.others k differ)
sums job w v e (ByEnd o) h = same_sum w v o.count o.turns (λ k. ap (λ (f : ℕ → Actor). (f k).spent) o.actors) h

pub turns_sum : (job : Job) (log : Log) → IsLog job log → (after job log).turns ≡ spent_in (after job log)
turns_sum job [] h = refl
turns_sum job (e ∷ log) h = sums job (after job log) (step job (after job log) e) e (changes job (after job log) e h.0.1) (turns_sum job log h.1)
