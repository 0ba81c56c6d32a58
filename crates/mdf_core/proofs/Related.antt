-- A relation between what an actor was and is, along the parts of a step: where each change of an actor alone keeps it, so
-- does the step.
use Rattle.std.proofs.Common.{◌≡◌, ◌+◌, ◌⊎◌, ℕ, zero, suc, Bool, true, false, cond, List, Option, Some, None, ℤ, refl, sym, ap, ◌∙◌, subst, slice_get, slice_set, remove, inl, inr}
use Rattle.mpl_value.specs.CallAnswers.{leftmost_trap}
use Rattle.mpl_value.specs.declared.body.BodyResult.{BodyResult}
use Rattle.mpl_value.specs.declared.body.BodyResult.TheVariants as result
use Rattle.mpl_value.specs.declared.body.BodyStart.{BodyStart}
use Rattle.mpl_value.specs.declared.known.Known.{Known}
use Rattle.mpl_value.specs.declared.known.Known.TheVariants.{Value, Trapped}
use Rattle.mpl_value.specs.declared.known.Trap.{Trap}
use Rattle.mdf_actor.specs.declared.status.ActorStatus.{ActorStatus}
use Rattle.mdf_actor.specs.declared.status.ActorStatus.TheVariants as status
use Rattle.mdf_code.specs.Alone.{Held, Words, Pending}
use Rattle.mdf_match.specs.Ports.{missing_in}
use Rattle.mdf_core.specs.Actors.{Actor, Arc, Fate, Open, Is, Forwarded, Target, Port, Result, arguments_of, is_post}
use Rattle.mdf_core.specs.Calls.{awaits, becomes, complete, completed, counts_ports, poisoned, ready, waiting, with_arcs}
use Rattle.mdf_core.specs.Events.{Ending}
use Rattle.mdf_core.specs.Steps.{accepted_start, accepts_on, becomes_forwarded, becomes_result, brings, brings_known, ends, fills_port, finishes, forwards, frees, frees_object, gives, matches, result_at_end, unless_given}
use Rattle.mdf_core.specs.Worlds.{Job, Object, World, acts, change, fate_at, known_at, put, spends}
use Rattle.mdf_core.proofs.Lists.{put_here, put_there, same_or}

pub record Keeps (R : Actor → Actor → Type 0) : Type 0 where
  pub same : (x : Actor) → R x x
  pub after : (x y z : Actor) → R x y → R y z → R x z
  -- the parts of an actor that change beside what its frame is told, its call and its children
  pub standing : (x : Actor) (s : ActorStatus) → R x (record x { status = s })
  pub starting : (x : Actor) (s : ActorStatus) (start : BodyStart) → R x (record x { status = s; start = start })
  pub stopped : (x : Actor) (s : ActorStatus) (n : ℕ) → R x (record x { status = s; counted = n })
  pub spent : (x : Actor) (n : ℕ) → R x (record x { spent = n })
  pub fated : (x : Actor) (f : Fate) → R x (record x { fate = f })
  pub filled : (x : Actor) (ports : List (Option Known)) → R x (record x { ports = ports })

module _ (R : Actor → Actor → Type 0) (rules : Keeps R) where
  abbrev pub All : World → World → Type 0
  All w v = (k : ℕ) → R (w.actors k) (v.actors k)

  all_same : (w : World) → All w w
  all_same w k = rules.same (w.actors k)

  pub all_then : (w v u : World) → All w v → All v u → All w u
  all_then w v u a b k = rules.after (w.actors k) (v.actors k) (u.actors k) (a k) (b k)

  -- what stands beside the actors is of no account
  all_as : (w v u : World) → u.actors ≡ v.actors → All w v → All w u
  all_as w v u same a = subst (λ (f : ℕ → Actor). (k : ℕ) → R (w.actors k) (f k)) (sym same) a

  pub all_put : (w v : World) (c : ℕ) (y : Actor) → v.actors ≡ put c y w.actors → R (w.actors c) y → All w v
  all_put w v c y is r k = at (same_or k c) where
    at : (k ≡ c) ⊎ (k ≡ c → ⊥) → R (w.actors k) (v.actors k)
    at (inl same) = subst (λ d. R (w.actors d) (v.actors d)) (sym same) (subst (R (w.actors c)) (sym (ap (λ (f : ℕ → Actor). f c) is ∙ put_here c y w.actors)) r)
    at (inr differ) = subst (R (w.actors k)) (sym (ap (λ (f : ℕ → Actor). f k) is ∙ put_there c k y w.actors differ)) (rules.same (w.actors k))

  pub acts_all : (a t : ℕ) (f : Actor → Actor) (w : World) → R (w.actors a) (f (w.actors a)) → All w (acts a t f w)
  acts_all a t f w r = all_put w (acts a t f w) a (spends t (f (w.actors a))) refl (rules.after (w.actors a) (f (w.actors a)) (spends t (f (w.actors a))) r (rules.spent (f (w.actors a)) ((f (w.actors a)).spent + t)))

  becomes_all : (c : ℕ) (known : Known) (w : World) → All w (becomes c known w)
  becomes_all c known w = all_put w (becomes c known w) c (record (w.actors c) { fate = Is known }) refl (rules.fated (w.actors c) (Is known))

  pub arcs_all : (arcs : List Arc) (w : World) → All w (with_arcs arcs w)
  arcs_all arcs w = all_same w

  forwards_all : (a : ℕ) (child : Option ℕ) (w : World) → All w (forwards a child w)
  forwards_all a None w = all_same w
  forwards_all a (Some child) w = all_put w (forwards a (Some child) w) a (record (w.actors a) { fate = Forwarded child }) refl (rules.fated (w.actors a) (Forwarded child))

  pub gives_all : (a : ℕ) (value : Held) (w : World) → All w (gives a value w)
  gives_all a (Words words) w = becomes_all a (Value words) w
  gives_all a (Pending call) w = forwards_all a ((w.actors a).child call) w

  result_all : (a : ℕ) (r : BodyResult) (w : World) → All w (becomes_result a r w)
  result_all a result.Open w = all_same w
  result_all a (result.Known known) w = becomes_all a known w
  result_all a result.Unknown w = all_same w

  unless_all : (f : Fate) (w settled : World) → All w settled → All w (unless_given f settled w)
  unless_all Open w settled q = q
  unless_all (Is known) w settled q = all_same w
  unless_all (Forwarded child) w settled q = all_same w

  frees_object_all : (o : ℤ) (state : List ℤ) (object : Option Object) (w : World) → All w (frees_object o state object w)
  frees_object_all o state None w = all_same w
  frees_object_all o state (Some object) w = all_same w

  frees_all : (x : Actor) (state : List ℤ) (w : World) → All w (frees x state w)
  frees_all x state w = at (is_post x.call) where
    at : (b : Bool) → All w (cond b (frees_object x.call.object state (w.objects x.call.object) w) w)
    at true = frees_object_all x.call.object state (w.objects x.call.object) w
    at false = all_same w

  change_all : (c : ℕ) (f : Actor → Actor) (w : World) → R (w.actors c) (f (w.actors c)) → All w (change c f w)
  change_all c f w r = all_put w (change c f w) c (f (w.actors c)) refl r

  completed_all : (c : ℕ) (x : Actor) (t : Option Trap) (w : World) → All w (completed c x t w)
  completed_all c x (Some trap) w =
      all_then w (change c poisoned w) (completed c x (Some trap) w) (change_all c poisoned w (rules.standing (w.actors c) status.Poisoned)) (becomes_all c (Trapped trap) (change c poisoned w))
  completed_all c x None w = at (is_post x.call) where
    at : (b : Bool) → All w (change c (cond b complete ready) w)
    at true = change_all c complete w (rules.standing (w.actors c) (status.Waiting 0))
    at false = change_all c ready w (rules.starting (w.actors c) status.Ready (ready (w.actors c)).start)

  awaits_all : (c : ℕ) (x : Actor) (n : ℕ) (w : World) → All w (awaits c x n w)
  awaits_all c x zero w = completed_all c x (leftmost_trap (arguments_of x.ports)) w
  awaits_all c x (suc n) w = change_all c (waiting (suc n)) w (rules.standing (w.actors c) (status.Waiting (suc n)))

  pub counts_all : (c : ℕ) (w : World) → All w (counts_ports c w)
  counts_all c w = awaits_all c (w.actors c) (missing_in (w.actors c).ports) w

  fills_all : (c port : ℕ) (known : Known) (o : Option (Option Known)) (w : World) → All w (fills_port c port known o w)
  fills_all c port known None w = all_same w
  fills_all c port known (Some (Some other)) w = all_same w
  fills_all c port known (Some None) w = let f : Actor → Actor = λ x. record x { ports = slice_set x.ports port (Some known) } in
      all_then w (change c f w) (fills_port c port known (Some None) w) (change_all c f w (rules.filled (w.actors c) (slice_set (w.actors c).ports port (Some known)))) (counts_all c (change c f w))

  forwarded_all : (c : ℕ) (known : Known) (f : Fate) (w : World) → All w (becomes_forwarded c known f w)
  forwarded_all c known (Forwarded child) w = becomes_all c known w
  forwarded_all c known Open w = all_same w
  forwarded_all c known (Is other) w = all_same w

  brings_all : (known : Known) (to : Target) (w : World) → All w (brings known to w)
  brings_all known (Port c port) w = fills_all c port known (slice_get (w.actors c).ports port) w
  brings_all known (Result c) w = forwarded_all c known (fate_at w c) w

  known_all : (o : Option Known) (to : Target) (w : World) → All w (brings_known o to w)
  known_all None to w = all_same w
  known_all (Some known) to w = brings_all known to w

  pub matches_all : (place : ℕ) (o : Option Arc) (w : World) → All w (matches place o w)
  matches_all place None w = all_same w
  matches_all place (Some arc) w = known_all (known_at w (Some arc.from)) arc.to (record w { due = remove w.due place })

  pub accepts_all : (o : ℤ) (a number : ℕ) (object : Option Object) (w : World) → All w (accepts_on o a number object w)
  accepts_all o a number None w = all_same w
  accepts_all o a number (Some object) w =
      all_put w (accepts_on o a number (Some object) w) a (record (w.actors a) { status = status.Ready; start = accepted_start (w.actors a) object.state number }) refl
      (rules.starting (w.actors a) status.Ready (accepted_start (w.actors a) object.state number))

  pub finishes_all : (job : Job) (a t : ℕ) (ending : Ending) (state : List ℤ) (w : World) → All w (finishes job a t ending state w)
  finishes_all job a t ending state w =
      let v = acts a t (ends t) w in let freed = frees (w.actors a) state v in let r = result_at_end job (w.actors a) ending in
      all_then w v (finishes job a t ending state w) (acts_all a t (ends t) w (rules.stopped (w.actors a) status.Ended ((w.actors a).counted + t)))
      (all_then v freed (finishes job a t ending state w) (frees_all (w.actors a) state v) (unless_all (w.actors a).fate freed (becomes_result a r freed) (result_all a r freed)))
