-- What each kind of event changes: the actor whose frame it is of, a new actor, or one to which something comes.
use Rattle.std.proofs.Common.{◌≡◌, ◌+◌, ◌⊎◌, ℕ, zero, suc, false, List, [], ◌∷◌, Option, Some, None, ℤ, refl, sym, ap, ◌∙◌, subst, slice_get, slice_set, remove, inl, inr, arith}
use Rattle.mpl_value.specs.declared.known.Known.{Known}
use Rattle.mdf_code.specs.Alone.{Held}
use Rattle.mdf_code.specs.Told.{Gave}
use Rattle.mdf_match.specs.Ports.{missing_in}
use Rattle.mdf_core.specs.Actors.{Actor, Arc, Fate, Open, Is, Forwarded, Target, Port, Result}
use Rattle.mdf_core.specs.Calls.{arcs_to, calls_on, counts_ports, new_actor, with_arcs}
use Rattle.mdf_core.specs.Events.{Ending}
use Rattle.mdf_core.specs.Naming.{SameFrame, is_running}
use Rattle.mdf_core.specs.Steps.{becomes_forwarded, becomes_result, brings, brings_known, ends, fills_port, finishes, frees, gives, matches, result_at_end, sends, tells, with_actor}
use Rattle.mdf_core.specs.Worlds.{Job, World, acts, change, fate_at, known_at, spends}
use Rattle.mdf_core.proofs.Changes.{Counted, MissesAt, Quiet, SameLists, arcs_quiet, becomes_quiet, counts_counted, frees_quiet, gives_quiet, lists_then, quiet_same, quiet_then, result_quiet, unless_quiet, frame_then}
use Rattle.mdf_core.proofs.Lists.{put_here, put_there}

-- ---- an event of an actor

-- its frame is as this function makes it, and the turns are told
pub record Acted (a t : ℕ) (f : Actor → Actor) (w v : World) : Type 0 where
  pub others : (k : ℕ) → (k ≡ a → ⊥) → v.actors k ≡ w.actors k
  pub frame : SameFrame (f (w.actors a)) (v.actors a)
  pub ports : (v.actors a).ports ≡ (w.actors a).ports
  pub spent : (v.actors a).spent ≡ (w.actors a).spent + t
  pub turns : v.turns ≡ w.turns + t
  pub lists : SameLists w v

-- it leaves ports and turns to others
pub record Mild (f : Actor → Actor) (x : Actor) : Type 0 where
  pub ports : (f x).ports ≡ x.ports
  pub spent : (f x).spent ≡ x.spent

pub acts_acted : (a t : ℕ) (f : Actor → Actor) (w : World) → Mild f (w.actors a) → Acted a t f w (acts a t f w)
acts_acted a t f w mild = record {
  others = λ k h. put_there a k (spends t (f (w.actors a))) w.actors h;
  frame = subst (SameFrame (f (w.actors a))) (sym (put_here a (spends t (f (w.actors a))) w.actors)) (record { status = refl; start = refl; told = refl; counted = refl; made = refl });
  ports = ap (λ (x : Actor). x.ports) (put_here a (spends t (f (w.actors a))) w.actors) ∙ mild.ports;
  spent = ap (λ (x : Actor). x.spent) (put_here a (spends t (f (w.actors a))) w.actors) ∙ ap (λ n. n + t) mild.spent;
  turns = refl;
  lists = record { count = refl; arrived = refl; accepted = refl; why = refl };
}

pub acted_quiet : (a t : ℕ) (f : Actor → Actor) (w v u : World) → Acted a t f w v → Quiet a v u → Acted a t f w u
acted_quiet a t f w v u x q = record {
  others = λ k h. q.only.others k h ∙ x.others k h;
  frame = frame_then (f (w.actors a)) (v.actors a) (u.actors a) x.frame q.frame;
  ports = q.only.ports ∙ x.ports;
  spent = q.only.spent ∙ x.spent;
  turns = q.only.turns ∙ x.turns;
  lists = lists_then w v u x.lists q.only.lists;
}

pub gives_acted : (a t : ℕ) (value : Held) (w : World) → Acted a t (tells Gave) w (gives a value (acts a t (tells Gave) w))
gives_acted a t value w =
    let v = acts a t (tells Gave) w in
    acted_quiet a t (tells Gave) w v (gives a value v) (acts_acted a t (tells Gave) w (record { ports = refl; spent = refl })) (gives_quiet a value v)

pub ends_acted : (job : Job) (a t : ℕ) (ending : Ending) (state : List ℤ) (w : World) → Acted a t (ends t) w (finishes job a t ending state w)
ends_acted job a t ending state w =
    let v = acts a t (ends t) w in let freed = frees (w.actors a) state v in let r = result_at_end job (w.actors a) ending in
    acted_quiet a t (ends t) w v (finishes job a t ending state w) (acts_acted a t (ends t) w (record { ports = refl; spent = refl }))
    (quiet_then a v freed (finishes job a t ending state w) (frees_quiet a (w.actors a) state v)
    (unless_quiet a (w.actors a).fate freed (becomes_result a r freed) (result_quiet a r freed)))

-- ---- a call

pub record Sent (job : Job) (a t callee : ℕ) (f : Actor → Actor) (w v : World) : Type 0 where
  pub others : (k : ℕ) → (k ≡ a → ⊥) → (k ≡ callee → ⊥) → v.actors k ≡ w.actors k
  pub frame : SameFrame (f (w.actors a)) (v.actors a)
  pub ports : (v.actors a).ports ≡ (w.actors a).ports
  pub spent : (v.actors a).spent ≡ (w.actors a).spent + t
  pub turns : v.turns ≡ w.turns + t
  pub count : v.count ≡ callee + 1
  pub arrived : v.arrived ≡ w.arrived
  pub accepted : v.accepted ≡ w.accepted
  pub why : v.why ≡ w.why
  pub free : (v.actors callee).spent ≡ 0
  pub untold : (v.actors callee).told ≡ []
  pub misses : MissesAt (v.actors callee).status (missing_in (v.actors callee).ports)
  pub waits : is_running (v.actors callee).status ≡ false

pub sends_sent : (job : Job) (a t callee member : ℕ) (object : ℤ) (arguments : List Held) (w : World) → (a ≡ callee → ⊥) →
    Sent job a (t + 1) callee (calls_on job callee member) w (sends job a t callee member object arguments w)
sends_sent job a t callee member object arguments w differ = record {
  others = λ k h l. counted.only.others k l ∙ (arcs.only.others k l ∙ (put_there callee k x v.actors l ∙ acted.others k h));
  frame = subst (SameFrame (calls_on job callee member (w.actors a))) (sym caller) acted.frame;
  ports = ap (λ (y : Actor). y.ports) caller ∙ acted.ports;
  spent = ap (λ (y : Actor). y.spent) caller ∙ acted.spent;
  turns = counted.only.turns ∙ (arcs.only.turns ∙ acted.turns);
  count = counted.only.lists.count ∙ arcs.only.lists.count;
  arrived = counted.only.lists.arrived ∙ (arcs.only.lists.arrived ∙ acted.lists.arrived);
  accepted = counted.only.lists.accepted ∙ (arcs.only.lists.accepted ∙ acted.lists.accepted);
  why = counted.only.lists.why ∙ (arcs.only.lists.why ∙ acted.lists.why);
  free = counted.only.spent ∙ (arcs.only.spent ∙ ap (λ (y : Actor). y.spent) (put_here callee x v.actors));
  untold = counted.only.told ∙ (arcs.only.told ∙ ap (λ (y : Actor). y.told) (put_here callee x v.actors));
  misses = subst (λ p. MissesAt ((counts_ports callee z).actors callee).status (missing_in p)) (sym counted.only.ports) counted.misses;
  waits = counted.waits;
} where
  x : Actor
  x = new_actor job a (w.actors a) member object arguments

  v : World
  v = acts a (t + 1) (calls_on job callee member) w

  y : World
  y = with_actor callee (new_actor job a (w.actors a) member object arguments) (acts a (t + 1) (calls_on job callee member) w)

  z : World
  z = with_arcs (arcs_to (w.actors a).child callee 0 arguments) (with_actor callee (new_actor job a (w.actors a) member object arguments) (acts a (t + 1) (calls_on job callee member) w))

  acted : Acted a (t + 1) (calls_on job callee member) w (acts a (t + 1) (calls_on job callee member) w)
  acted = acts_acted a (t + 1) (calls_on job callee member) w (record { ports = refl; spent = refl })

  arcs : Quiet callee (with_actor callee (new_actor job a (w.actors a) member object arguments) (acts a (t + 1) (calls_on job callee member) w))
      (with_arcs (arcs_to (w.actors a).child callee 0 arguments) (with_actor callee (new_actor job a (w.actors a) member object arguments) (acts a (t + 1) (calls_on job callee member) w)))
  arcs = arcs_quiet callee (arcs_to (w.actors a).child callee 0 arguments) (with_actor callee (new_actor job a (w.actors a) member object arguments) (acts a (t + 1) (calls_on job callee member) w))

  counted : Counted callee (with_arcs (arcs_to (w.actors a).child callee 0 arguments) (with_actor callee (new_actor job a (w.actors a) member object arguments) (acts a (t + 1) (calls_on job callee member) w)))
      (sends job a t callee member object arguments w)
  counted = counts_counted callee (with_arcs (arcs_to (w.actors a).child callee 0 arguments) (with_actor callee (new_actor job a (w.actors a) member object arguments) (acts a (t + 1) (calls_on job callee member) w)))

  caller : (sends job a t callee member object arguments w).actors a ≡ (acts a (t + 1) (calls_on job callee member) w).actors a
  caller = counted.only.others a differ ∙ (arcs.only.others a differ ∙ put_there callee a (new_actor job a (w.actors a) member object arguments) (acts a (t + 1) (calls_on job callee member) w).actors differ)

-- ---- a token

-- A token came to an actor with an empty port, which was filled, or only results changed.
pub record Filled (c : ℕ) (w v : World) : Type 0 where
  pub told : (v.actors c).told ≡ (w.actors c).told
  pub before : ℕ
  pub missed : missing_in (w.actors c).ports ≡ suc before
  pub others : (k : ℕ) → (k ≡ c → ⊥) → v.actors k ≡ w.actors k
  pub spent : (v.actors c).spent ≡ (w.actors c).spent
  pub turns : v.turns ≡ w.turns
  pub lists : SameLists w v
  pub misses : MissesAt (v.actors c).status (missing_in (v.actors c).ports)
  pub waits : is_running (v.actors c).status ≡ false

abbrev pub Came : World → World → Type 0
Came w v = (c : ℕ) × (Quiet c w v ⊎ Filled c w v)

-- an empty port is one that misses
pub empty_misses : (row : List (Option Known)) (port : ℕ) → slice_get row port ≡ Some None → (n : ℕ) × (missing_in row ≡ suc n)
empty_misses [] port h = absurd (cc h)
empty_misses (None ∷ row) port h = (missing_in row, omega arith)
empty_misses (Some known ∷ row) zero h = absurd (cc h)
empty_misses (Some known ∷ row) (suc port) h = empty_misses row port h

abbrev pub filled_at : ℕ → Known → Actor → Actor
filled_at port known x = record x { ports = slice_set x.ports port (Some known) }

filled : (c port : ℕ) (known : Known) (w : World) → slice_get (w.actors c).ports port ≡ Some None → Filled c w (counts_ports c (change c (filled_at port known) w))
filled c port known w empty = record {
  told = counted.only.told ∙ ap (λ (y : Actor). y.told) (put_here c (filled_at port known (w.actors c)) w.actors);
  before = missing.0;
  missed = missing.1;
  others = λ k h. counted.only.others k h ∙ put_there c k (filled_at port known (w.actors c)) w.actors h;
  spent = counted.only.spent ∙ ap (λ (y : Actor). y.spent) (put_here c (filled_at port known (w.actors c)) w.actors);
  turns = counted.only.turns;
  lists = record { count = counted.only.lists.count; arrived = counted.only.lists.arrived; accepted = counted.only.lists.accepted; why = counted.only.lists.why };
  misses = subst (λ p. MissesAt ((counts_ports c (change c (filled_at port known) w)).actors c).status (missing_in p)) (sym counted.only.ports) counted.misses;
  waits = counted.waits;
} where
  missing : (n : ℕ) × (missing_in (w.actors c).ports ≡ suc n)
  missing = empty_misses (w.actors c).ports port empty

  counted : Counted c (change c (filled_at port known) w) (counts_ports c (change c (filled_at port known) w))
  counted = counts_counted c (change c (filled_at port known) w)

fills_came : (c port : ℕ) (known : Known) (w : World) (o : Option (Option Known)) → slice_get (w.actors c).ports port ≡ o → Came w (fills_port c port known o w)
fills_came c port known w None is = (c, inl (quiet_same c w))
fills_came c port known w (Some (Some other)) is = (c, inl (quiet_same c w))
fills_came c port known w (Some None) is = (c, inr (filled c port known w is))

forwarded_came : (c : ℕ) (known : Known) (w : World) (f : Fate) → Came w (becomes_forwarded c known f w)
forwarded_came c known w (Forwarded child) = (c, inl (becomes_quiet c known w))
forwarded_came c known w Open = (c, inl (quiet_same c w))
forwarded_came c known w (Is other) = (c, inl (quiet_same c w))

brings_came : (known : Known) (to : Target) (w : World) → Came w (brings known to w)
brings_came known (Port c port) w = fills_came c port known w (slice_get (w.actors c).ports port) refl
brings_came known (Result c) w = forwarded_came c known w (fate_at w c)

known_came : (o : Option Known) (to : Target) (w : World) → Came w (brings_known o to w)
known_came None to w = (0, inl (quiet_same 0 w))
known_came (Some known) to w = brings_came known to w

without_due : (w v : World) (due : List Arc) → Came (record w { due = due }) v → Came w v
without_due w v due (c, inl q) = (
  c,
  inl (record {
    only = record {
      others = q.only.others;
      ports = q.only.ports;
      spent = q.only.spent;
      told = q.only.told;
      turns = q.only.turns;
      lists = record { count = q.only.lists.count; arrived = q.only.lists.arrived; accepted = q.only.lists.accepted; why = q.only.lists.why };
    };
    frame = q.frame;
  }),
)
without_due w v due (c, inr f) = (
  c,
  inr (record {
    told = f.told;
    before = f.before;
    missed = f.missed;
    others = f.others;
    spent = f.spent;
    turns = f.turns;
    lists = record { count = f.lists.count; arrived = f.lists.arrived; accepted = f.lists.accepted; why = f.lists.why };
    misses = f.misses;
    waits = f.waits;
  }),
)

pub matches_came : (place : ℕ) (o : Option Arc) (w : World) → Came w (matches place o w)
matches_came place None w = (0, inl (quiet_same 0 w))
matches_came place (Some arc) w =
    without_due w (matches place (Some arc) w) (remove w.due place) (known_came (known_at w (Some arc.from)) arc.to (record w { due = remove w.due place }))
