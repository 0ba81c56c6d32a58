-- What the parts of a step leave as it was.
use Rattle.std.proofs.Common.{◌≡◌, ℕ, zero, suc, Bool, true, false, cond, List, [], ◌∷◌, Option, Some, None, ℤ, refl, sym, ap, ◌∙◌, subst}
use Rattle.mpl_value.specs.CallAnswers.{leftmost_trap}
use Rattle.mpl_value.specs.declared.body.BodyResult.{BodyResult}
use Rattle.mpl_value.specs.declared.body.BodyResult.TheVariants as result
use Rattle.mpl_value.specs.declared.known.Known.{Known}
use Rattle.mpl_value.specs.declared.known.Known.TheVariants.{Value, Trapped}
use Rattle.mpl_value.specs.declared.known.Trap.{Trap}
use Rattle.mdf_actor.specs.declared.status.ActorStatus.{ActorStatus}
use Rattle.mdf_actor.specs.declared.status.ActorStatus.TheVariants as status
use Rattle.mdf_code.specs.Alone.{Held, Words, Pending}
use Rattle.mdf_match.specs.Ports.{missing_in}
use Rattle.mdf_core.specs.Actors.{Actor, Arc, Fate, Open, Is, Forwarded, Result, arguments_of, is_post}
use Rattle.mdf_core.specs.Calls.{awaits, becomes, complete, completed, counts_ports, poisoned, ready, waiting, with_arcs}
use Rattle.mdf_core.specs.Naming.{SameFrame, is_running}
use Rattle.mdf_core.specs.Steps.{becomes_result, forwards, frees, frees_object, gives, unless_given}
use Rattle.mdf_core.specs.Worlds.{Object, World, change}
use Rattle.mdf_core.proofs.Lists.{put_here, put_there}

-- ---- frames

pub same_frame : (x : Actor) → SameFrame x x
same_frame x = record { status = refl; start = refl; told = refl; counted = refl; made = refl }

pub frame_then : (x y z : Actor) → SameFrame x y → SameFrame y z → SameFrame x z
frame_then x y z a b = record {
  status = b.status ∙ a.status;
  start = b.start ∙ a.start;
  told = b.told ∙ a.told;
  counted = b.counted ∙ a.counted;
  made = b.made ∙ a.made;
}

-- ---- what a machine holds beside its actors

pub record SameLists (w v : World) : Type 0 where
  pub count : v.count ≡ w.count
  pub arrived : v.arrived ≡ w.arrived
  pub accepted : v.accepted ≡ w.accepted
  pub why : v.why ≡ w.why

pub same_lists : (w : World) → SameLists w w
same_lists w = record { count = refl; arrived = refl; accepted = refl; why = refl }

pub lists_then : (w v u : World) → SameLists w v → SameLists v u → SameLists w u
lists_then w v u a b = record { count = b.count ∙ a.count; arrived = b.arrived ∙ a.arrived; accepted = b.accepted ∙ a.accepted; why = b.why ∙ a.why }

-- one actor alone changes, at no cost
pub record Only (c : ℕ) (w v : World) : Type 0 where
  pub others : (k : ℕ) → (k ≡ c → ⊥) → v.actors k ≡ w.actors k
  pub ports : (v.actors c).ports ≡ (w.actors c).ports
  pub spent : (v.actors c).spent ≡ (w.actors c).spent
  pub told : (v.actors c).told ≡ (w.actors c).told
  pub turns : v.turns ≡ w.turns
  pub lists : SameLists w v

pub only_same : (c : ℕ) (w : World) → Only c w w
only_same c w = record { others = λ k h. refl; ports = refl; spent = refl; told = refl; turns = refl; lists = same_lists w }

pub only_then : (c : ℕ) (w v u : World) → Only c w v → Only c v u → Only c w u
only_then c w v u a b = record {
  others = λ k h. b.others k h ∙ a.others k h;
  ports = b.ports ∙ a.ports;
  spent = b.spent ∙ a.spent;
  told = b.told ∙ a.told;
  turns = b.turns ∙ a.turns;
  lists = lists_then w v u a.lists b.lists;
}

pub only_change : (c : ℕ) (f : Actor → Actor) (w : World) → (f (w.actors c)).ports ≡ (w.actors c).ports → (f (w.actors c)).spent ≡ (w.actors c).spent → (f (w.actors c)).told ≡ (w.actors c).told → Only c w (change c f w)
only_change c f w ports spent told = record {
  told = ap (λ (x : Actor). x.told) (put_here c (f (w.actors c)) w.actors) ∙ told;
  others = λ k h. put_there c k (f (w.actors c)) w.actors h;
  ports = ap (λ (x : Actor). x.ports) (put_here c (f (w.actors c)) w.actors) ∙ ports;
  spent = ap (λ (x : Actor). x.spent) (put_here c (f (w.actors c)) w.actors) ∙ spent;
  turns = refl;
  lists = record { count = refl; arrived = refl; accepted = refl; why = refl };
}

-- ---- results

abbrev known_now : Known → Actor → Actor
known_now known x = record x { fate = Is known }

-- a change of results and arcs: the frame stays too
pub record Quiet (c : ℕ) (w v : World) : Type 0 where
  pub only : Only c w v
  pub frame : SameFrame (w.actors c) (v.actors c)

pub quiet_same : (c : ℕ) (w : World) → Quiet c w w
quiet_same c w = record { only = only_same c w; frame = same_frame (w.actors c) }

pub quiet_then : (c : ℕ) (w v u : World) → Quiet c w v → Quiet c v u → Quiet c w u
quiet_then c w v u a b = record { only = only_then c w v u a.only b.only; frame = frame_then (w.actors c) (v.actors c) (u.actors c) a.frame b.frame }

quiet_change : (c : ℕ) (f : Actor → Actor) (w : World) → SameFrame (w.actors c) (f (w.actors c)) → (f (w.actors c)).ports ≡ (w.actors c).ports → (f (w.actors c)).spent ≡ (w.actors c).spent →
    Quiet c w (change c f w)
quiet_change c f w frame ports spent = record { only = only_change c f w ports spent frame.told; frame = subst (SameFrame (w.actors c)) (sym (put_here c (f (w.actors c)) w.actors)) frame }

-- what holds beside the actors is of no account
quiet_as : (c : ℕ) (w v u : World) → Quiet c w v → u.actors ≡ v.actors → u.turns ≡ v.turns → SameLists v u → Quiet c w u
quiet_as c w v u q actors turns lists = record {
  only = record {
    others = λ k h. ap (λ (f : ℕ → Actor). f k) actors ∙ q.only.others k h;
    ports = ap (λ (f : ℕ → Actor). (f c).ports) actors ∙ q.only.ports;
    spent = ap (λ (f : ℕ → Actor). (f c).spent) actors ∙ q.only.spent;
    told = ap (λ (f : ℕ → Actor). (f c).told) actors ∙ q.only.told;
    turns = turns ∙ q.only.turns;
    lists = lists_then w v u q.only.lists lists;
  };
  frame = subst (λ (f : ℕ → Actor). SameFrame (w.actors c) (f c)) (sym actors) q.frame;
}

pub becomes_quiet : (c : ℕ) (known : Known) (w : World) → Quiet c w (becomes c known w)
becomes_quiet c known w =
    quiet_as c w (change c (known_now known) w) (becomes c known w) (quiet_change c (known_now known) w (record { status = refl; start = refl; told = refl; counted = refl; made = refl }) refl refl) refl refl
    (record { count = refl; arrived = refl; accepted = refl; why = refl })

pub arcs_quiet : (c : ℕ) (arcs : List Arc) (w : World) → Quiet c w (with_arcs arcs w)
arcs_quiet c arcs w = quiet_as c w w (with_arcs arcs w) (quiet_same c w) refl refl (record { count = refl; arrived = refl; accepted = refl; why = refl })

abbrev forwarded_now : ℕ → Actor → Actor
forwarded_now child x = record x { fate = Forwarded child }

forwards_quiet : (a : ℕ) (child : Option ℕ) (w : World) → Quiet a w (forwards a child w)
forwards_quiet a None w = quiet_same a w
forwards_quiet a (Some child) w =
    let v = change a (forwarded_now child) w in
    quiet_then a w v (forwards a (Some child) w) (quiet_change a (forwarded_now child) w (record { status = refl; start = refl; told = refl; counted = refl; made = refl }) refl refl)
    (arcs_quiet a (record { from = child; to = Result a } ∷ []) v)

pub gives_quiet : (a : ℕ) (value : Held) (w : World) → Quiet a w (gives a value w)
gives_quiet a (Words words) w = becomes_quiet a (Value words) w
gives_quiet a (Pending call) w = forwards_quiet a ((w.actors a).child call) w

pub result_quiet : (a : ℕ) (r : BodyResult) (w : World) → Quiet a w (becomes_result a r w)
result_quiet a result.Open w = quiet_same a w
result_quiet a (result.Known known) w = becomes_quiet a known w
result_quiet a result.Unknown w = quiet_same a w

pub unless_quiet : (a : ℕ) (f : Fate) (w settled : World) → Quiet a w settled → Quiet a w (unless_given f settled w)
unless_quiet a Open w settled q = q
unless_quiet a (Is known) w settled q = quiet_same a w
unless_quiet a (Forwarded child) w settled q = quiet_same a w

frees_object_quiet : (a : ℕ) (o : ℤ) (state : List ℤ) (object : Option Object) (w : World) → Quiet a w (frees_object o state object w)
frees_object_quiet a o state None w = quiet_same a w
frees_object_quiet a o state (Some object) w =
    quiet_as a w w (frees_object o state (Some object) w) (quiet_same a w) refl refl (record { count = refl; arrived = refl; accepted = refl; why = refl })

pub frees_quiet : (a : ℕ) (x : Actor) (state : List ℤ) (w : World) → Quiet a w (frees x state w)
frees_quiet a x state w = at (is_post x.call) where
  at : (b : Bool) → Quiet a w (cond b (frees_object x.call.object state (w.objects x.call.object) w) w)
  at true = frees_object_quiet a x.call.object state (w.objects x.call.object) w
  at false = quiet_same a w

-- ---- ports

-- what the status of an actor says of its ports
abbrev pub MissesAt : ActorStatus → ℕ → Type 0
MissesAt (status.Waiting n) missing = missing ≡ n
MissesAt status.Ready missing = missing ≡ 0
MissesAt status.Running missing = missing ≡ 0
MissesAt (status.Parked child) missing = missing ≡ 0
MissesAt status.Ended missing = missing ≡ 0
MissesAt status.Poisoned missing = missing ≡ 0

-- the ports of an actor were counted: its status says how many are missing, and it doesn't run
pub record Counted (c : ℕ) (w v : World) : Type 0 where
  pub only : Only c w v
  pub misses : MissesAt (v.actors c).status (missing_in (w.actors c).ports)
  pub waits : is_running (v.actors c).status ≡ false

counted_change : (c : ℕ) (f : Actor → Actor) (w : World) → (f (w.actors c)).ports ≡ (w.actors c).ports → (f (w.actors c)).spent ≡ (w.actors c).spent → (f (w.actors c)).told ≡ (w.actors c).told →
    MissesAt (f (w.actors c)).status (missing_in (w.actors c).ports) → is_running (f (w.actors c)).status ≡ false → Counted c w (change c f w)
counted_change c f w ports spent told misses waits = record {
  only = only_change c f w ports spent told;
  misses = subst (λ (x : Actor). MissesAt x.status (missing_in (w.actors c).ports)) (sym (put_here c (f (w.actors c)) w.actors)) misses;
  waits = ap (λ (x : Actor). is_running x.status) (put_here c (f (w.actors c)) w.actors) ∙ waits;
}

counted_quiet : (c : ℕ) (w v u : World) → Counted c w v → Quiet c v u → Counted c w u
counted_quiet c w v u a b = record {
  only = only_then c w v u a.only b.only;
  misses = subst (λ s. MissesAt s (missing_in (w.actors c).ports)) (sym b.frame.status) a.misses;
  waits = ap is_running b.frame.status ∙ a.waits;
}

completed_counted : (c : ℕ) (w : World) → missing_in (w.actors c).ports ≡ 0 → (t : Option Trap) → Counted c w (completed c (w.actors c) t w)
completed_counted c w none (Some trap) =
    counted_quiet c w (change c poisoned w) (becomes c (Trapped trap) (change c poisoned w)) (counted_change c poisoned w refl refl refl none refl) (becomes_quiet c (Trapped trap) (change c poisoned w))
completed_counted c w none None = at (is_post (w.actors c).call) where
  at : (b : Bool) → Counted c w (change c (cond b complete ready) w)
  at true = counted_change c complete w refl refl refl none refl
  at false = counted_change c ready w refl refl refl none refl

awaits_counted : (c : ℕ) (w : World) (n : ℕ) → missing_in (w.actors c).ports ≡ n → Counted c w (awaits c (w.actors c) n w)
awaits_counted c w zero is = completed_counted c w is (leftmost_trap (arguments_of (w.actors c).ports))
awaits_counted c w (suc n) is = counted_change c (waiting (suc n)) w refl refl refl is refl

pub counts_counted : (c : ℕ) (w : World) → Counted c w (counts_ports c w)
counts_counted c w = awaits_counted c w (missing_in (w.actors c).ports) refl
