-- In a machine of a program without persistent objects no call is one on an object.
use Rattle.std.proofs.Common.{◌≡◌, ◌+◌, ◌<◌, ◌≤◌, ◌⊎◌, ℕ, zero, suc, true, false, not, List, [], ◌∷◌, Some, ℤ, refl, sym, ap, ◌∙◌, subst, arith, inl, inr, nat_lt, ltb-true, ltb-false}
use Rattle.mdf_actor.specs.declared.status.ActorStatus.{ActorStatus}
use Rattle.mdf_actor.specs.declared.status.ActorStatus.TheVariants as status
use Rattle.mdf_code.specs.Alone.{Held, Words, Pending}
use Rattle.mdf_code.specs.Frames.{Calls, Needs}
use Rattle.mdf_code.specs.Told.{Beaten, Called, Gave, Halt, HaltsNext, Learnt, Named, Stands, Stood, Told, calls_made}
use Rattle.mdf_code.specs.Yields.{member_is_regular}
use Rattle.mdf_core.specs.Actors.{Actor, is_post, main_call}
use Rattle.mdf_core.specs.Causes.{AreSo, HasActor, IsSo}
use Rattle.mdf_core.specs.Enabled.{IsLog}
use Rattle.mdf_core.specs.Stages.{AsItsStatus, HasArguments, HasTurns, Starts}
use Rattle.mdf_core.specs.Steps.{Log, after}
use Rattle.mdf_core.specs.Trees.{IsTree}
use Rattle.mdf_core.specs.Worlds.{Job, World}
use Rattle.mdf_core.proofs.Fates.{count_grows}
use Rattle.mdf_core.proofs.Lists.{by_bool, same_or}
use Rattle.mdf_core.proofs.Wired.{later_at}
use Rattle.mdf_drive.specs.Plain.{IsPlain}
use Rattle.mdf_drive.proofs.Tallies.{calls_regular}

-- ---- main

record MainStays (w : World) : Type 0 where
  there : 0 < w.count
  call : (w.actors 0).call ≡ main_call

main_stays : (job : Job) (log : Log) → IsLog job log → MainStays (after job log)
main_stays job [] h = record { there = omega arith; call = refl }
main_stays job (e ∷ log) h = let m = main_stays job log h.1 in record {
  there = omega (arith, m.there, count_grows job (after job log) e h.0.1);
  call = (later_at job e log h).calls 0 m.there ∙ m.call;
}

pub main_there : (job : Job) (log : Log) → IsLog job log → 0 < (after job log).count
main_there job log h = (main_stays job log h).there

pub main_call_is : (job : Job) (log : Log) → IsLog job log → ((after job log).actors 0).call ≡ main_call
main_call_is job log h = (main_stays job log h).call

-- ---- calls that were made

record MadeAt (job : Job) (w : World) (a call : ℕ) : Type 0 where
  before : List Told
  stood : Stood
  halts : HaltsNext job.image (w.actors a).start before stood
  member : ℕ
  object : ℤ
  arguments : List Held
  halt : stood.halt ≡ Stands (Calls member object arguments)
  actor : HasActor w a call member object arguments

made_here : (job : Job) (w : World) (a : ℕ) (before : List Told) (stood : Stood) → HaltsNext job.image (w.actors a).start before stood → (halt : Halt) → stood.halt ≡ halt → IsSo w a before halt Called → MadeAt job w a (calls_made before + 1)
made_here job w a before stood halts (Stands (Calls member object arguments)) is so = record { before = before; stood = stood; halts = halts; member = member; object = object; arguments = arguments; halt = is; actor = so }
made_here job w a before stood halts (Stands (Needs (Words words))) is so = absurd so
made_here job w a before stood halts (Stands (Needs (Pending call))) is so = absurd so
made_here job w a before stood halts halt is so = absurd so

made_at : (job : Job) (w : World) (a : ℕ) (told : List Told) → AreSo job w a told → (call : ℕ) → 1 ≤ call → call ≤ calls_made told → MadeAt job w a call
made_at job w a [] so call first made = absurd (omega (arith, first, made))
made_at job w a (Called ∷ before) so call first made = at (same_or call (calls_made before + 1)) (made_at job w a before so.1 call first) where
  at : (call ≡ calls_made before + 1) ⊎ (call ≡ calls_made before + 1 → ⊥) → (call ≤ calls_made before → MadeAt job w a call) → MadeAt job w a call
  at (inl same) again = subst (MadeAt job w a) (sym same) (made_here job w a before so.0.stood so.0.halts so.0.stood.halt refl so.0.is)
  at (inr differ) again = again (by_bool (nat_lt (calls_made before) call) (λ e. absurd (differ (omega (arith, made, ltb-true (calls_made before) call e)))) (λ e. ltb-false (calls_made before) call e))
made_at job w a (Learnt k ∷ before) so call first made = made_at job w a before so.1 call first made
made_at job w a (Named o ∷ before) so call first made = made_at job w a before so.1 call first made
made_at job w a (Gave ∷ before) so call first made = made_at job w a before so.1 call first made
made_at job w a (Beaten ∷ before) so call first made = made_at job w a before so.1 call first made

-- an actor that made a call has begun
starts_calling : (job : Job) (x : Actor) (s : ActorStatus) → 1 ≤ calls_made x.told → HasArguments job x s → HasTurns job x s → Starts job x
starts_calling job x (status.Waiting n) made args turns = absurd (omega (arith, made, ap calls_made turns.told))
starts_calling job x status.Ready made args turns = args
starts_calling job x status.Running made args turns = args
starts_calling job x (status.Parked c) made args turns = args
starts_calling job x status.Ended made args turns = args
starts_calling job x status.Poisoned made args turns = absurd (omega (arith, made, ap calls_made turns.told))

-- the actor of a call has a member
pub made_member : (job : Job) (w : World) → IsTree w → ((c : ℕ) → c < w.count → AreSo job w c (w.actors c).told) → (c : ℕ) → 0 < c → c < w.count → (m : ℕ) × ((w.actors c).call.member ≡ Some (record { 0 = m }))
made_member job w t so c first there = (m.member, subst (λ d. (w.actors d).call.member ≡ Some (record { 0 = m.member })) (some_same (sym m.actor.is ∙ t.callers c first there)) m.actor.member_is) where
  m : MadeAt job w (w.actors c).call.caller (w.actors c).call.place
  m = let k = t.children (w.actors c).call.caller (w.actors c).call.place c (t.callers c first there) in
      made_at job w (w.actors c).call.caller (w.actors (w.actors c).call.caller).told (so (w.actors c).call.caller (omega (arith, k.newer, there))) (w.actors c).call.place k.first k.made

  some_same : Some m.actor.child ≡ Some c → m.actor.child ≡ c
  some_same e = cc e

-- ---- all actors

module _ (job : Job) (w : World) (main : IsPlain job) (t : IsTree w) (stages : (c : ℕ) → AsItsStatus job (w.actors c)) (so : (c : ℕ) → c < w.count → AreSo job w c (w.actors c).told) (call : (w.actors 0).call ≡ main_call) where
  one_plain : (c : ℕ) → 0 < c → c < w.count → is_post (w.actors (w.actors c).call.caller).call ≡ false → is_post (w.actors c).call ≡ false
  one_plain c first there plain = (stages c).member.post (record { 0 = m.member }) named ∙ ap not regular where
    a : ℕ
    a = (w.actors c).call.caller

    found : (w.actors (w.actors c).call.caller).child (w.actors c).call.place ≡ Some c
    found = t.callers c first there

    m : MadeAt job w (w.actors c).call.caller (w.actors c).call.place
    m = let k = t.children (w.actors c).call.caller (w.actors c).call.place c (t.callers c first there) in
        made_at job w (w.actors c).call.caller (w.actors (w.actors c).call.caller).told (so (w.actors c).call.caller (omega (arith, k.newer, there))) (w.actors c).call.place k.first k.made

    starts : Starts job (w.actors (w.actors c).call.caller)
    starts = let k = t.children (w.actors c).call.caller (w.actors c).call.place c (t.callers c first there) in
        starts_calling job (w.actors (w.actors c).call.caller) (w.actors (w.actors c).call.caller).status (omega (arith, k.first, k.made)) (stages (w.actors c).call.caller).arguments (stages (w.actors c).call.caller).turns

    named : (w.actors c).call.member ≡ Some (record { 0 = m.member })
    named = subst (λ d. (w.actors d).call.member ≡ Some (record { 0 = m.member })) (some_same (sym m.actor.is ∙ t.callers c first there)) m.actor.member_is where
      some_same : Some m.actor.child ≡ Some c → m.actor.child ≡ c
      some_same e = cc e

    regular : member_is_regular job.image m.member ≡ true
    regular = calls_regular job (w.actors (w.actors c).call.caller) main (stages (w.actors c).call.caller) plain starts m.before m.stood m.member m.object m.arguments m.halts m.halt

  plain_below : (k c : ℕ) → c < k → c < w.count → is_post (w.actors c).call ≡ false
  plain_below zero c below there = absurd (omega (arith, below))
  plain_below (suc k) zero below there = ap is_post call
  plain_below (suc k) (suc c) below there = let i = t.children (w.actors (suc c)).call.caller (w.actors (suc c)).call.place (suc c) (t.callers (suc c) (omega arith) there) in
      one_plain (suc c) (omega arith) there (plain_below k (w.actors (suc c)).call.caller (omega (arith, i.newer, below)) (omega (arith, i.newer, there)))

  pub all_plain : (c : ℕ) → c < w.count → is_post (w.actors c).call ≡ false
  all_plain c there = plain_below w.count c there there
