-- Each event that applies is one of a few kinds of change.
use Rattle.std.proofs.Common.{◌≡◌, ◌+◌, ◌<◌, ℕ, Bool, true, false, cond, List, [], ◌∷◌, Option, Some, None, ℤ, refl, sym, ap, ◌∙◌, subst, arith, nat_eq, nat_lt, option_map, slice_get}
use Rattle.mpl_value.specs.declared.known.Known.{Known}
use Rattle.mdf_actor.specs.declared.status.ActorStatus.{ActorStatus}
use Rattle.mdf_actor.specs.declared.status.ActorStatus.TheVariants as status
use Rattle.mdf_code.specs.Told.{Beaten, Gave, Named, most_turns}
use Rattle.mdf_core.specs.Actors.{Actor}
use Rattle.mdf_core.specs.Calls.{calls_on}
use Rattle.mdf_core.specs.Choices.{Candidate, best_of, better, candidate, idle_pick, pick, priority_at, unless_busy}
use Rattle.mdf_core.specs.Enabled.{Enabled}
use Rattle.mdf_core.specs.Events.{Event, Fire, Send, Create, Learn, Park, Resume, Reply, End, Beat, Match, Arrive, Accept, Quit}
use Rattle.mdf_core.specs.Naming.{is_running}
use Rattle.mdf_core.specs.Out.{actor_of, ends_machine, moved, moves}
use Rattle.mdf_core.specs.Steps.{accepted_start, accepts_on, ends, learns, parks, runs, step, tells}
use Rattle.mdf_core.specs.Worlds.{Job, Object, World, is_in, known_at}
use Rattle.mdf_core.proofs.Lists.{by_bool, nat_same, put_here, put_there}
use Rattle.mdf_core.proofs.Transitions.{Acted, Came, Mild, Sent, acts_acted, ends_acted, gives_acted, matches_came, sends_sent}

-- ---- the kinds

abbrev pub is_waiting : ActorStatus → Bool
is_waiting (status.Waiting n) = true
is_waiting status.Ready = false
is_waiting status.Running = false
is_waiting (status.Parked child) = false
is_waiting status.Ended = false
is_waiting status.Poisoned = false

-- of an actor's frame, which it takes out or puts back as it says
pub record OfFrame (w : World) (e : Event) (a : ℕ) (f : Actor → Actor) : Type 0 where
  pub there : a < w.count
  pub named : actor_of e ≡ Some a
  pub ready : is_waiting (w.actors a).status ≡ false
  pub stays : is_waiting (f (w.actors a)).status ≡ false
  pub start : (f (w.actors a)).start ≡ (w.actors a).start
  pub runs : moved (is_running (w.actors a).status) (moves e) ≡ is_running (f (w.actors a)).status

pub record OfActor (w : World) (e : Event) (v : World) : Type 0 where
  pub actor : ℕ
  pub turns : ℕ
  pub does : Actor → Actor
  pub frame : OfFrame w e actor does
  pub acted : Acted actor turns does w v

abbrev pub is_send : Event → Bool
is_send (Send a turns callee member object arguments) = true
is_send other = false

pub record OfCall (job : Job) (w : World) (e : Event) (v : World) : Type 0 where
  pub sends : is_send e ≡ true
  pub actor : ℕ
  pub turns : ℕ
  pub does : Actor → Actor
  pub frame : OfFrame w e actor does
  pub sent : Sent job actor turns w.count does w v

pub record OfToken (w : World) (e : Event) (v : World) : Type 0 where
  pub named : actor_of e ≡ None
  pub of_match : (place : ℕ) × (e ≡ Match place)
  pub came : Came w v

pub record OfArrival (w : World) (e : Event) (v : World) : Type 0 where
  pub named : actor_of e ≡ None
  pub actor : ℕ
  pub there : actor < w.count
  pub complete : (w.actors actor).status ≡ status.Waiting 0
  pub actors : v.actors ≡ w.actors
  pub count : v.count ≡ w.count
  pub turns : v.turns ≡ w.turns
  pub arrived : v.arrived ≡ actor ∷ w.arrived
  pub accepted : v.accepted ≡ w.accepted
  pub why : v.why ≡ w.why

pub record OfAccept (w : World) (e : Event) (v : World) : Type 0 where
  pub named : actor_of e ≡ None
  pub actor : ℕ
  pub came : is_in actor w.arrived ≡ true
  pub first : is_in actor w.accepted ≡ false
  pub others : (k : ℕ) → (k ≡ actor → ⊥) → v.actors k ≡ w.actors k
  pub status : (v.actors actor).status ≡ status.Ready
  pub ports : (v.actors actor).ports ≡ (w.actors actor).ports
  pub spent : (v.actors actor).spent ≡ (w.actors actor).spent
  pub told : (v.actors actor).told ≡ (w.actors actor).told
  pub count : v.count ≡ w.count
  pub turns : v.turns ≡ w.turns
  pub arrived : v.arrived ≡ w.arrived
  pub accepted : v.accepted ≡ actor ∷ w.accepted
  pub why : v.why ≡ w.why

pub record OfEnd (w : World) (e : Event) (v : World) : Type 0 where
  pub named : actor_of e ≡ None
  pub ends : ends_machine e ≡ true
  pub actors : v.actors ≡ w.actors
  pub count : v.count ≡ w.count
  pub turns : v.turns ≡ w.turns
  pub arrived : v.arrived ≡ w.arrived
  pub accepted : v.accepted ≡ w.accepted

pub data Change (job : Job) (w : World) (e : Event) (v : World) : Type 0 where
  ByActor : OfActor w e v → Change job w e v
  ByCall : OfCall job w e v → Change job w e v
  ByToken : OfToken w e v → Change job w e v
  ByArrival : OfArrival w e v → Change job w e v
  ByAccept : OfAccept w e v → Change job w e v
  ByEnd : OfEnd w e v → Change job w e v

-- ---- the pick

abbrev IsOpen : World → Option Candidate → List ℕ → Type 0
IsOpen w None arrived = Unit {0}
IsOpen w (Some c) arrived = (is_in c.actor arrived ≡ true) × (is_in c.actor w.accepted ≡ false)

abbrev Unaccepted : World → Option Candidate → ℕ → Type 0
Unaccepted w None a = Unit {0}
Unaccepted w (Some c) a = (c.actor ≡ a) × (is_in a w.accepted ≡ false)

candidate_open : (w : World) (a : ℕ) (p : Option ℕ) → is_in a w.accepted ≡ false → Unaccepted w (option_map (λ priority. record { priority = priority; actor = a }) p) a
candidate_open w a None h = tt
candidate_open w a (Some p) h = (refl, h)

candidate_unaccepted : (job : Job) (w : World) (o : ℤ) (object : Object) (a : ℕ) → Unaccepted w (candidate job w o object a) a
candidate_unaccepted job w o object a = by_bool (is_in a w.accepted)
    (λ t. subst (λ p. Unaccepted w (option_map (λ priority. record { priority = priority; actor = a }) p) a) (sym (none t)) tt)
    (λ f. candidate_open w a (priority_at job w o object a) f) where
      none : is_in a w.accepted ≡ true → priority_at job w o object a ≡ None
      none t = rw (t) refl

in_more : (c d : ℕ) (ds : List ℕ) → is_in c ds ≡ true → is_in c (d ∷ ds) ≡ true
in_more c d ds h = by_bool (nat_eq d c) (λ t. ap (λ b. cond b true (is_in c ds)) t) (λ f. ap (λ b. cond b true (is_in c ds)) f ∙ h)

in_here : (c : ℕ) (ds : List ℕ) → is_in c (c ∷ ds) ≡ true
in_here c ds = ap (λ b. cond b true (is_in c ds)) (nat_same c)

later_open : (w : World) (d : ℕ) (ds : List ℕ) (c : Option Candidate) → IsOpen w c ds → IsOpen w c (d ∷ ds)
later_open w d ds None h = tt
later_open w d ds (Some c) h = (in_more c.actor d ds h.0, h.1)

first_open : (w : World) (d : ℕ) (ds : List ℕ) (c : Candidate) → Unaccepted w (Some c) d → IsOpen w (Some c) (d ∷ ds)
first_open w d ds c h = (subst (λ k. is_in k (d ∷ ds) ≡ true) (sym h.0) (in_here d ds), subst (λ k. is_in k w.accepted ≡ false) (sym h.0) h.1)

better_open : (w : World) (d : ℕ) (ds : List ℕ) (later earlier : Option Candidate) → Unaccepted w later d → IsOpen w earlier ds → IsOpen w (better later earlier) (d ∷ ds)
better_open w d ds None earlier h k = later_open w d ds earlier k
better_open w d ds (Some later) None h k = first_open w d ds later h
better_open w d ds (Some later) (Some earlier) h k = at (nat_lt earlier.priority later.priority) where
  at : (b : Bool) → IsOpen w (cond b (Some later) (Some earlier)) (d ∷ ds)
  at true = first_open w d ds later h
  at false = later_open w d ds (Some earlier) k

best_open : (job : Job) (w : World) (o : ℤ) (object : Object) (ds : List ℕ) → IsOpen w (best_of job w o object ds) ds
best_open job w o object [] = tt
best_open job w o object (d ∷ ds) = better_open w d ds (candidate job w o object d) (best_of job w o object ds) (candidate_unaccepted job w o object d) (best_open job w o object ds)

named_open : (w : World) (c : Option Candidate) (ds : List ℕ) (a : ℕ) → IsOpen w c ds → option_map (λ (c : Candidate). c.actor) c ≡ Some a → (is_in a ds ≡ true) × (is_in a w.accepted ≡ false)
named_open w None ds a h e = absurd (cc e)
named_open w (Some c) ds a h e = let same : c.actor ≡ a = cc e in (subst (λ k. is_in k ds ≡ true) same h.0, subst (λ k. is_in k w.accepted ≡ false) same h.1)

busy_open : (job : Job) (w : World) (o : ℤ) (object : Object) (busy : Option ℕ) (a : ℕ) → unless_busy busy (pick job w o object) ≡ Some a → (is_in a w.arrived ≡ true) × (is_in a w.accepted ≡ false)
busy_open job w o object None a h = named_open w (best_of job w o object w.arrived) w.arrived a (best_open job w o object w.arrived) h
busy_open job w o object (Some b) a h = absurd (cc h)

-- an object picks a call that arrived and wasn't accepted
pub picked_open : (job : Job) (w : World) (o : ℤ) (object : Option Object) (a : ℕ) → idle_pick job w o object ≡ Some a → (is_in a w.arrived ≡ true) × (is_in a w.accepted ≡ false)
picked_open job w o None a h = absurd (cc h)
picked_open job w o (Some object) a h = busy_open job w o object object.busy a h

-- ---- events

running_ready : (s : ActorStatus) → s ≡ status.Running → is_waiting s ≡ false
running_ready s is = ap is_waiting is

-- a frame that runs on
runs_on : (w : World) (e : Event) (a : ℕ) (f : Actor → Actor) → a < w.count → actor_of e ≡ Some a → moves e ≡ None → (w.actors a).status ≡ status.Running →
    (f (w.actors a)).status ≡ (w.actors a).status → (f (w.actors a)).start ≡ (w.actors a).start → OfFrame w e a f
runs_on w e a f there named moves_not running same start = record {
  start = start;
  there = there;
  named = named;
  ready = ap is_waiting running;
  stays = ap is_waiting (same ∙ running);
  runs = ap (moved (is_running (w.actors a).status)) moves_not ∙ ap is_running (sym same);
}

learns_mild : (known : Option Known) (x : Actor) → Mild (learns known) x
learns_mild None x = record { ports = refl; spent = refl }
learns_mild (Some known) x = record { ports = refl; spent = refl }

learns_status : (known : Option Known) (x : Actor) → (learns known x).status ≡ x.status
learns_status None x = refl
learns_status (Some known) x = refl

learns_start : (known : Option Known) (x : Actor) → (learns known x).start ≡ x.start
learns_start None x = refl
learns_start (Some known) x = refl

parks_start : (turns : ℕ) (child : Option ℕ) (x : Actor) → (parks turns child x).start ≡ x.start
parks_start turns None x = refl
parks_start turns (Some child) x = refl

parks_mild : (turns : ℕ) (child : Option ℕ) (x : Actor) → Mild (parks turns child) x
parks_mild turns None x = record { ports = refl; spent = refl }
parks_mild turns (Some child) x = record { ports = refl; spent = refl }

accepts_changed : (o : ℤ) (a number : ℕ) (object : Object) (w : World) → is_in a w.arrived ≡ true → is_in a w.accepted ≡ false →
    OfAccept w (Accept o a number) (accepts_on o a number (Some object) w)
accepts_changed o a number object w came first = let f : Actor → Actor = λ x. record x { status = status.Ready; start = accepted_start x object.state number } in record {
  named = refl;
  actor = a;
  came = came;
  first = first;
  others = λ k h. put_there a k (f (w.actors a)) w.actors h;
  status = ap (λ (x : Actor). x.status) (put_here a (f (w.actors a)) w.actors);
  ports = ap (λ (x : Actor). x.ports) (put_here a (f (w.actors a)) w.actors);
  spent = ap (λ (x : Actor). x.spent) (put_here a (f (w.actors a)) w.actors);
  told = ap (λ (x : Actor). x.told) (put_here a (f (w.actors a)) w.actors);
  count = refl;
  turns = refl;
  arrived = refl;
  accepted = refl;
  why = refl;
}

accept_changes : (job : Job) (w : World) (o : ℤ) (a number : ℕ) (object : Option Object) → idle_pick job w o object ≡ Some a → Change job w (Accept o a number) (accepts_on o a number object w)
accept_changes job w o a number None h = absurd (cc h)
accept_changes job w o a number (Some object) h = let p = picked_open job w o (Some object) a h in ByAccept (accepts_changed o a number object w p.0 p.1)

pub changes : (job : Job) (w : World) (e : Event) → Enabled job w e → Change job w e (step job w e)
changes job w (Fire a) h = ByActor (record {
  actor = a;
  turns = 1;
  does = runs;
  frame = record { there = h.there; named = refl; ready = ap is_waiting h.ready; stays = refl; start = refl; runs = refl };
  acted = acts_acted a 1 runs w (record { ports = refl; spent = refl });
})
changes job w (Send a turns callee member object arguments) h = subst (λ c. Change job w (Send a turns c member object arguments) (step job w (Send a turns c member object arguments))) (sym h.next)
    (ByCall (record {
      sends = refl;
      actor = a;
      turns = turns + 1;
      does = calls_on job w.count member;
      frame = runs_on w (Send a turns w.count member object arguments) a (calls_on job w.count member) h.stops.stops.there refl refl h.stops.stops.running refl refl;
      sent = sends_sent job a turns w.count member object arguments w (λ same. absurd (omega (arith, same, h.stops.stops.there)));
    }))
changes job w (Create a turns class object) h = ByActor (record {
  actor = a;
  turns = turns + 1;
  does = λ x. record (tells (Named object) x) { made = x.made + 1 };
  frame = runs_on w (Create a turns class object) a (λ x. record (tells (Named object) x) { made = x.made + 1 }) h.stops.stops.there refl refl h.stops.stops.running refl refl;
  acted = created;
}) where
  created : Acted a (turns + 1) (λ x. record (tells (Named object) x) { made = x.made + 1 }) w (step job w (Create a turns class object))
  created = let q = acts_acted a (turns + 1) (λ (x : Actor). record (tells (Named object) x) { made = x.made + 1 }) w (record { ports = refl; spent = refl }) in
      record { others = q.others; frame = q.frame; ports = q.ports; spent = q.spent; turns = q.turns; lists = record { count = refl; arrived = refl; accepted = refl; why = refl } }
changes job w (Learn a turns call) h = let known = known_at w ((w.actors a).child call) in ByActor (record {
  actor = a;
  turns = turns;
  does = learns known;
  frame = runs_on w (Learn a turns call) a (learns known) h.stops.stops.there refl refl h.stops.stops.running (learns_status known (w.actors a)) (learns_start known (w.actors a));
  acted = acts_acted a turns (learns known) w (learns_mild known (w.actors a));
})
changes job w (Park a turns call) h = let child = (w.actors a).child call in ByActor (record {
  actor = a;
  turns = turns;
  does = parks turns child;
  frame = record {
    there = h.stops.stops.there;
    named = refl;
    ready = ap is_waiting h.stops.stops.running;
    stays = ap (λ c. is_waiting (parks turns c (w.actors a)).status) h.of_call;
    start = parks_start turns child (w.actors a);
    runs = sym (ap (λ c. is_running (parks turns c (w.actors a)).status) h.of_call);
  };
  acted = acts_acted a turns (parks turns child) w (parks_mild turns child (w.actors a));
})
changes job w (Resume a) h = ByActor (record {
  actor = a;
  turns = 0;
  does = runs;
  frame = record { there = h.there; named = refl; ready = ap is_waiting h.parked; stays = refl; start = refl; runs = refl };
  acted = acts_acted a 0 runs w (record { ports = refl; spent = refl });
})
changes job w (Reply a turns value) h = ByActor (record {
  actor = a;
  turns = turns;
  does = tells Gave;
  frame = runs_on w (Reply a turns value) a (tells Gave) h.stops.there refl refl h.stops.running refl refl;
  acted = gives_acted a turns value w;
})
changes job w (End a turns ending state) h = ByActor (record {
  actor = a;
  turns = turns;
  does = ends turns;
  frame = record { there = h.stops.there; named = refl; ready = ap is_waiting h.stops.running; stays = refl; start = refl; runs = refl };
  acted = ends_acted job a turns ending state w;
})
changes job w (Beat a) h = ByActor (record {
  actor = a;
  turns = most_turns;
  does = tells Beaten;
  frame = runs_on w (Beat a) a (tells Beaten) h.stops.there refl refl h.stops.running refl refl;
  acted = acts_acted a most_turns (tells Beaten) w (record { ports = refl; spent = refl });
})
changes job w (Match place) h = ByToken (record { named = refl; of_match = (place, refl); came = matches_came place (slice_get w.due place) w })
changes job w (Arrive a) h = ByArrival (record { named = refl; actor = a; there = h.there; complete = h.complete; actors = refl; count = refl; turns = refl; arrived = refl; accepted = refl; why = refl })
changes job w (Accept o a number) h = accept_changes job w o a number (w.objects o) h.picked
changes job w (Quit why) h = ByEnd (record { named = refl; ends = refl; actors = refl; count = refl; turns = refl; arrived = refl; accepted = refl })
