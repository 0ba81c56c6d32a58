-- What an event makes of each actor.
use Rattle.std.proofs.Common.{◌≡◌, ◌+◌, ℕ, zero, suc, Bool, true, false, cond, List, Option, Some, None, ℤ, refl, sym, ap, ◌∙◌, subst, slice_get, slice_set, remove, nat_eq, eqb-true, arith}
use Rattle.mpl_value.specs.CallAnswers.{leftmost_trap}
use Rattle.mpl_value.specs.declared.body.BodyResult.{BodyResult}
use Rattle.mpl_value.specs.declared.body.BodyResult.TheVariants as result
use Rattle.mpl_value.specs.declared.known.Known.{Known}
use Rattle.mpl_value.specs.declared.known.Known.TheVariants.{Value, Trapped}
use Rattle.mpl_value.specs.declared.known.Trap.{Trap}
use Rattle.mdf_actor.specs.declared.status.ActorStatus.TheVariants as status
use Rattle.mdf_code.specs.Alone.{Held, Words, Pending}
use Rattle.mdf_code.specs.Frames.{Calls, Creates, Needs, Replies}
use Rattle.mdf_code.specs.Told.{Beaten, Beats, Gave, HaltsNext, IsMade, Learnt, Named, NamesMade, Stands, Stood, calls_made, most_turns}
use Rattle.mdf_code.proofs.ToldFrames.{names_made}
use Rattle.mdf_match.specs.Ports.{missing_in}
use Rattle.mdf_core.specs.Actors.{Actor, Arc, Fate, Open, Is, Forwarded, Target, Port, Result, arguments_of, is_post}
use Rattle.mdf_core.specs.Calls.{arcs_to, awaits, becomes, calls_on, complete, completed, counts_ports, new_actor, poisoned, ready, waiting, with_arcs}
use Rattle.mdf_core.specs.Enabled.{Enabled, Stops, StopsAt, ending_at}
use Rattle.mdf_core.specs.Events.{Ending, Event, Fire, Send, Create, Learn, Park, Resume, Reply, End, Beat, Match, Arrive, Accept, Quit}
use Rattle.mdf_core.specs.Stages.{fate_of}
use Rattle.mdf_core.specs.Steps.{accepted_start, accepts_on, becomes_forwarded, becomes_result, brings_known, ends, fills_port, finishes, forwards, frees, gives, learns, matches, parks, result_at_end, runs, sends, step, tells, unless_given}
use Rattle.mdf_core.specs.Trees.{IsTree}
use Rattle.mdf_core.specs.Worlds.{Job, Object, World, acts, change, fate_at, known_at, put, spends}
use Rattle.mdf_core.proofs.EachStep.{picked_open}
use Rattle.mdf_core.proofs.Fates.{AllFated, Fresh, frees_actors, missing_fresh}
use Rattle.mdf_core.proofs.Lists.{put_here}
use Rattle.mdf_core.proofs.Rooted.{with_call}
use Rattle.mdf_core.proofs.Standing.{Standing}
use Rattle.mdf_core.proofs.Transitions.{empty_misses}

-- ---- ports that are counted

-- an actor without an empty port
abbrev pub settled : Actor → Option Trap → Actor
settled x (Some trap) = record (poisoned x) { fate = Is (Trapped trap) }
settled x None = cond (is_post x.call) complete ready x

abbrev pub awaited : Actor → ℕ → Actor
awaited x zero = settled x (leftmost_trap (arguments_of x.ports))
awaited x (suc missing) = waiting (suc missing) x

abbrev pub counted_now : Actor → Actor
counted_now x = awaited x (missing_in x.ports)

abbrev pub with_port : ℕ → Known → Actor → Actor
with_port port known x = record x { ports = slice_set x.ports port (Some known) }

-- ---- the changes of an actor

-- its frame runs, and stops there so many turns after its last event
pub record HaltsHere (job : Job) (x : Actor) (turns : ℕ) (stood : Stood) : Type 0 where
  pub running : x.status ≡ status.Running
  pub halts : HaltsNext job.image x.start x.told stood
  pub turns_are : stood.turns ≡ turns + x.counted

abbrev pub GivesFate : Actor → Held → Fate → Type 0
GivesFate x (Words words) fate = fate ≡ Is (Value words)
GivesFate x (Pending call) fate = (child : ℕ) × (x.child call ≡ Some child) × (fate ≡ Forwarded child)

pub data Turned (job : Job) (w : World) (e : Event) (k : ℕ) (x : Actor) : Actor → Type 0 where
  Stays : Turned job w e k x x
  Fires : e ≡ Fire k → x.status ≡ status.Ready → Turned job w e k x (spends 1 (runs x))
  Sends : (turns callee member : ℕ) → (object : ℤ) → (arguments : List Held) → (stood : Stood) → HaltsHere job x turns stood → stood.halt ≡ Stands (Calls member object arguments) →
      Turned job w e k x (spends (turns + 1) (calls_on job callee member x))
  Makes : (turns class : ℕ) → (object : ℤ) → (stood : Stood) → HaltsHere job x turns stood → stood.halt ≡ Stands (Creates class) →
      Turned job w e k x (spends (turns + 1) (record (tells (Named object) x) { made = x.made + 1 }))
  Learns : (turns call : ℕ) → (known : Known) → (stood : Stood) → HaltsHere job x turns stood → stood.halt ≡ Stands (Needs (Pending call)) → Turned job w e k x (spends turns (tells (Learnt known) x))
  Parks : (turns call child : ℕ) → (stood : Stood) → HaltsHere job x turns stood → stood.halt ≡ Stands (Needs (Pending call)) → x.child call ≡ Some child →
      Turned job w e k x (spends turns (record x { status = status.Parked child; counted = x.counted + turns }))
  Resumes : (child : ℕ) → x.status ≡ status.Parked child → Turned job w e k x (spends 0 (runs x))
  Gives : (turns : ℕ) → (value : Held) → (fate : Fate) → (stood : Stood) → e ≡ Reply k turns value → HaltsHere job x turns stood → stood.halt ≡ Stands (Replies value) → GivesFate x value fate →
      Turned job w e k x (record (spends turns (tells Gave x)) { fate = fate })
  -- where it has given, or its result stays opened
  Ends : (turns : ℕ) → (ending : Ending) → (stood : Stood) → HaltsHere job x turns stood → ending_at stood.halt ≡ Some ending → (x.fate ≡ Open → fate_of (result_at_end job x ending) ≡ Open) →
      Turned job w e k x (spends turns (ends turns x))
  EndsKnown : (turns : ℕ) → (ending : Ending) → (known : Known) → (stood : Stood) → HaltsHere job x turns stood → ending_at stood.halt ≡ Some ending → x.fate ≡ Open → result_at_end job x ending ≡ result.Known known →
      Turned job w e k x (record (spends turns (ends turns x)) { fate = Is known })
  Pauses : (stood : Stood) → HaltsHere job x most_turns stood → stood.halt ≡ Beats → Turned job w e k x (spends most_turns (tells Beaten x))
  Fills : (port : ℕ) → (known : Known) → slice_get x.ports port ≡ Some None → Fresh x → Turned job w e k x (counted_now (with_port port known x))
  -- a token that was due brought the result
  Follows : (child : ℕ) → (known : Known) → (arc : Arc) → (place : ℕ) → slice_get w.due place ≡ Some arc → arc.to ≡ Result k → known_at w (Some arc.from) ≡ Some known → x.fate ≡ Forwarded child → Turned job w e k x (record x { fate = Is known })
  Accepts : (number : ℕ) → (state : List ℤ) → x.status ≡ status.Waiting 0 → Turned job w e k x (record x { status = status.Ready; start = accepted_start x state number })
  New : (a member : ℕ) → (object : ℤ) → (arguments : List Held) → k ≡ w.count → x.status ≡ status.Ready → Turned job w e k x (counted_now (new_actor job a (w.actors a) member object arguments))

-- ---- places

by_put : (P : Actor → Type 0) (f : ℕ → Actor) (a k : ℕ) (y : Actor) → (k ≡ a → P y) → P (f k) → P (put a y f k)
by_put P f a k y here there = at (nat_eq k a) refl where
  at : (b : Bool) → nat_eq k a ≡ b → P (cond b y (f k))
  at true e = here (eqb-true k a e)
  at false e = there

put_twice : (a k : ℕ) (g : Actor → Actor) (y : Actor) (f : ℕ → Actor) → put a (g (put a y f a)) (put a y f) k ≡ put a (g y) f k
put_twice a k g y f = at (nat_eq k a) where
  at : (b : Bool) → cond b (g (put a y f a)) (cond b y (f k)) ≡ cond b (g y) (f k)
  at true = ap g (put_here a y f)
  at false = refl

counts_at : (c : ℕ) (u : World) (k : ℕ) → (counts_ports c u).actors k ≡ put c (counted_now (u.actors c)) u.actors k
counts_at c u k = at (missing_in (u.actors c).ports) where
  by_trap : (t : Option Trap) → (completed c (u.actors c) t u).actors k ≡ put c (settled (u.actors c) t) u.actors k
  by_trap (Some trap) = put_twice c k (λ x. record x { fate = Is (Trapped trap) }) (poisoned (u.actors c)) u.actors
  by_trap None = refl

  at : (n : ℕ) → (awaits c (u.actors c) n u).actors k ≡ put c (awaited (u.actors c) n) u.actors k
  at zero = by_trap (leftmost_trap (arguments_of (u.actors c).ports))
  at (suc n) = refl

-- ---- events

-- a call that a frame names has an actor
pub named_child : (job : Job) (w : World) (a turns call : ℕ) → IsTree w → Stops job w a turns (Stands (Replies (Pending call))) → (c : ℕ) × ((w.actors a).child call ≡ Some c)
named_child job w a turns call t s =
    let made : IsMade (calls_made (w.actors a).told) (Pending call) = subst (NamesMade (calls_made (w.actors a).told)) s.is (names_made job.image (w.actors a).start (w.actors a).told s.stood s.stops.halts) in
    t.calls a call s.stops.there made.0 made.1

-- one actor alone is put anew
one_turned : (job : Job) (w : World) (e : Event) (a : ℕ) (y : Actor) → Turned job w e a (w.actors a) y → (k : ℕ) → Turned job w e k (w.actors k) (put a y w.actors k)
one_turned job w e a y here k = by_put (Turned job w e k (w.actors k)) w.actors a k y (λ same. subst (λ d. Turned job w e d (w.actors d) y) (sym same) here) Stays

as_put : (job : Job) (w v : World) (e : Event) (a k : ℕ) (y : Actor) → v.actors k ≡ put a y w.actors k → Turned job w e a (w.actors a) y → Turned job w e k (w.actors k) (v.actors k)
as_put job w v e a k y is here = subst (Turned job w e k (w.actors k)) (sym is) (one_turned job w e a y here k)

halts_here : (job : Job) (w : World) (a turns : ℕ) (stood : Stood) → StopsAt job w a turns stood → HaltsHere job (w.actors a) turns stood
halts_here job w a turns stood s = record { running = s.running; halts = s.halts; turns_are = s.turns_are }

learns_turned : (job : Job) (w : World) (e : Event) (a turns call : ℕ) (known : Known) (stood : Stood) (o : Option Known) → o ≡ Some known → HaltsHere job (w.actors a) turns stood → stood.halt ≡ Stands (Needs (Pending call)) →
    Turned job w e a (w.actors a) (spends turns (learns o (w.actors a)))
learns_turned job w e a turns call known stood None is h halt = absurd (cc is)
learns_turned job w e a turns call known stood (Some k) is h halt = Learns turns call k stood h halt

parks_turned : (job : Job) (w : World) (e : Event) (a turns call child : ℕ) (stood : Stood) (o : Option ℕ) → (w.actors a).child call ≡ o → o ≡ Some child → HaltsHere job (w.actors a) turns stood → stood.halt ≡ Stands (Needs (Pending call)) →
    Turned job w e a (w.actors a) (spends turns (parks turns o (w.actors a)))
parks_turned job w e a turns call child stood None at is h halt = absurd (cc is)
parks_turned job w e a turns call child stood (Some d) at is h halt = Parks turns call d stood h halt at

-- a gift
gives_turned : (job : Job) (w : World) (e : Event) (a turns : ℕ) (value : Held) (stood : Stood) → e ≡ Reply a turns value → HaltsHere job (w.actors a) turns stood → stood.halt ≡ Stands (Replies value) →
    ((call : ℕ) → value ≡ Pending call → (c : ℕ) × ((w.actors a).child call ≡ Some c)) → (k : ℕ) → Turned job w e k (w.actors k) ((gives a value (acts a turns (tells Gave) w)).actors k)
gives_turned job w e a turns (Words words) stood named h halt made k =
    as_put job w (gives a (Words words) (acts a turns (tells Gave) w)) e a k (record (spends turns (tells Gave (w.actors a))) { fate = Is (Value words) })
    (put_twice a k (λ x. record x { fate = Is (Value words) }) (spends turns (tells Gave (w.actors a))) w.actors) (Gives turns (Words words) (Is (Value words)) stood named h halt refl)
gives_turned job w e a turns (Pending call) stood named h halt made k = let c = made call refl in
    as_put job w (gives a (Pending call) (acts a turns (tells Gave) w)) e a k (record (spends turns (tells Gave (w.actors a))) { fate = Forwarded c.0 })
    (at (((acts a turns (tells Gave) w).actors a).child call) c.0 (ap (λ (x : Actor). x.child call) (put_here a (spends turns (tells Gave (w.actors a))) w.actors) ∙ c.1))
    (Gives turns (Pending call) (Forwarded c.0) stood named h halt (c.0, c.1, refl)) where
      at : (o : Option ℕ) (child : ℕ) → o ≡ Some child → (forwards a o (acts a turns (tells Gave) w)).actors k ≡ put a (record (spends turns (tells Gave (w.actors a))) { fate = Forwarded child }) w.actors k
      at None child is = absurd (cc is)
      at (Some d) child is = put_twice a k (λ x. record x { fate = Forwarded d }) (spends turns (tells Gave (w.actors a))) w.actors
          ∙ ap (λ c. put a (record (spends turns (tells Gave (w.actors a))) { fate = Forwarded c }) w.actors k) (some_same is) where
            some_same : Some d ≡ Some child → d ≡ child
            some_same s = cc s

-- an end
ends_turned : (job : Job) (w : World) (e : Event) (a turns : ℕ) (ending : Ending) (state : List ℤ) (stood : Stood) → HaltsHere job (w.actors a) turns stood → ending_at stood.halt ≡ Some ending →
    (k : ℕ) → Turned job w e k (w.actors k) ((finishes job a turns ending state w).actors k)
ends_turned job w e a turns ending state stood h is k = at (w.actors a).fate (result_at_end job (w.actors a) ending) refl refl where
  y : Actor
  y = spends turns (ends turns (w.actors a))

  freed : World
  freed = frees (w.actors a) state (acts a turns (ends turns) w)

  freed_is : (frees (w.actors a) state (acts a turns (ends turns) w)).actors ≡ put a (spends turns (ends turns (w.actors a))) w.actors
  freed_is = frees_actors (w.actors a) state (acts a turns (ends turns) w)

  stays : ((w.actors a).fate ≡ Open → fate_of (result_at_end job (w.actors a) ending) ≡ Open) → Turned job w e k (w.actors k) (freed.actors k)
  stays opened = as_put job w freed e a k y (ap (λ (f : ℕ → Actor). f k) freed_is) (Ends turns ending stood h is opened)

  at : (f : Fate) (r : BodyResult) → (w.actors a).fate ≡ f → result_at_end job (w.actors a) ending ≡ r → Turned job w e k (w.actors k) ((unless_given f (becomes_result a r freed) freed).actors k)
  at Open result.Open fate r = stays (λ o. ap fate_of r)
  at Open (result.Known known) fate r = as_put job w (becomes a known freed) e a k (record y { fate = Is known })
      (ap (λ (f : ℕ → Actor). put a (record (f a) { fate = Is known }) f k) freed_is ∙ put_twice a k (λ x. record x { fate = Is known }) y w.actors)
      (EndsKnown turns ending known stood h is fate r)
  at Open result.Unknown fate r = stays (λ o. ap fate_of r)
  at (Is known) r fate s = stays (λ o. absurd (cc (o, fate)))
  at (Forwarded child) r fate s = stays (λ o. absurd (cc (o, fate)))

-- a token
fills_turned : (job : Job) (w : World) (e : Event) (c port : ℕ) (known : Known) (o : Option (Option Known)) → slice_get (w.actors c).ports port ≡ o → Standing w c → AllFated w → (u : World) → u.actors ≡ w.actors →
    (k : ℕ) → Turned job w e k (w.actors k) ((fills_port c port known o u).actors k)
fills_turned job w e c port known None is s f u same k = subst (λ (g : ℕ → Actor). Turned job w e k (w.actors k) (g k)) (sym same) Stays
fills_turned job w e c port known (Some (Some other)) is s f u same k = subst (λ (g : ℕ → Actor). Turned job w e k (w.actors k) (g k)) (sym same) Stays
fills_turned job w e c port known (Some None) is s f u same k = let m = empty_misses (w.actors c).ports port is in
    as_put job w (fills_port c port known (Some None) u) e c k (counted_now (with_port port known (w.actors c)))
    (counts_at c (change c (with_port port known) u) k
    ∙ (put_twice c k counted_now (with_port port known (u.actors c)) u.actors ∙ ap (λ (g : ℕ → Actor). put c (counted_now (with_port port known (g c))) g k) same))
    (Fills port known is (missing_fresh (w.actors c) m.0 s.misses m.1 (f c)))

follows_turned : (job : Job) (w : World) (e : Event) (c : ℕ) (known : Known) (arc : Arc) (place : ℕ) → slice_get w.due place ≡ Some arc → arc.to ≡ Result c → known_at w (Some arc.from) ≡ Some known → (f : Fate) → fate_at w c ≡ f →
    (u : World) → u.actors ≡ w.actors → (k : ℕ) → Turned job w e k (w.actors k) ((becomes_forwarded c known f u).actors k)
follows_turned job w e c known arc place at to knows (Forwarded child) is u same k = as_put job w (becomes c known u) e c k (record (w.actors c) { fate = Is known })
    (ap (λ (g : ℕ → Actor). put c (record (g c) { fate = Is known }) g k) same) (Follows child known arc place at to knows is)
follows_turned job w e c known arc place at to knows Open is u same k = subst (λ (g : ℕ → Actor). Turned job w e k (w.actors k) (g k)) (sym same) Stays
follows_turned job w e c known arc place at to knows (Is other) is u same k = subst (λ (g : ℕ → Actor). Turned job w e k (w.actors k) (g k)) (sym same) Stays

match_turned : (job : Job) (w : World) (e : Event) (place : ℕ) (arc : Arc) → slice_get w.due place ≡ Some arc → ((a : ℕ) → Standing w a) → AllFated w → (k : ℕ) → Turned job w e k (w.actors k) ((matches place (Some arc) w).actors k)
match_turned job w e place arc due s f k = at (known_at w (Some arc.from)) arc.to refl refl where
  u : World
  u = record w { due = remove w.due place }

  at : (o : Option Known) (to : Target) → known_at w (Some arc.from) ≡ o → arc.to ≡ to → Turned job w e k (w.actors k) ((brings_known o to (record w { due = remove w.due place })).actors k)
  at None to knows is = Stays
  at (Some known) (Port c port) knows is = fills_turned job w e c port known (slice_get (w.actors c).ports port) refl (s c) f u refl k
  at (Some known) (Result c) knows is = follows_turned job w e c known arc place due is knows (fate_at w c) refl u refl k

-- a call
sends_turned : (job : Job) (w : World) (e : Event) (a turns callee member : ℕ) (object : ℤ) (arguments : List Held) (stood : Stood) → callee ≡ w.count → (w.actors callee).status ≡ status.Ready → HaltsHere job (w.actors a) turns stood →
    stood.halt ≡ Stands (Calls member object arguments) → (k : ℕ) → Turned job w e k (w.actors k) ((sends job a turns callee member object arguments w).actors k)
sends_turned job w e a turns callee member object arguments stood next beyond h halt k =
    subst (Turned job w e k (w.actors k)) (sym is)
    (by_put (Turned job w e k (w.actors k)) (put a caller w.actors) callee k (counted_now new)
    (λ same. New a member object arguments (same ∙ next) (ap (λ d. (w.actors d).status) same ∙ beyond))
    (one_turned job w e a caller (Sends turns callee member object arguments stood h halt) k)) where
      caller : Actor
      caller = spends (turns + 1) (calls_on job callee member (w.actors a))

      new : Actor
      new = new_actor job a (w.actors a) member object arguments

      z : World
      z = with_arcs (arcs_to (w.actors a).child callee 0 arguments) (with_call job a turns callee member object arguments w)

      is : (sends job a turns callee member object arguments w).actors k ≡ put callee (counted_now new) (put a caller w.actors) k
      is = counts_at callee z k ∙ put_twice callee k counted_now new (put a caller w.actors)

accepts_turned : (job : Job) (w : World) (e : Event) (o : ℤ) (a number : ℕ) (object : Option Object) → (w.actors a).status ≡ status.Waiting 0 → (k : ℕ) → Turned job w e k (w.actors k) ((accepts_on o a number object w).actors k)
accepts_turned job w e o a number None is k = Stays
accepts_turned job w e o a number (Some object) is k = one_turned job w e a (record (w.actors a) { status = status.Ready; start = accepted_start (w.actors a) object.state number }) (Accepts number object.state is) k

pub turned : (job : Job) (w : World) (e : Event) → Enabled job w e → ((a : ℕ) → Standing w a) → AllFated w → IsTree w → (k : ℕ) → Turned job w e k (w.actors k) ((step job w e).actors k)
turned job w (Fire a) h s f t k = by_put (Turned job w (Fire a) k (w.actors k)) w.actors a k (spends 1 (runs (w.actors a)))
    (λ same. subst (λ d. Turned job w (Fire a) d (w.actors d) (spends 1 (runs (w.actors a)))) (sym same) (Fires refl h.ready)) Stays
turned job w (Send a turns callee member object arguments) h s f t k =
    sends_turned job w (Send a turns callee member object arguments) a turns callee member object arguments h.stops.stood h.next ((s callee).beyond (omega (arith, h.next))).0
    (halts_here job w a turns h.stops.stood h.stops.stops) h.stops.is k
turned job w (Create a turns class object) h s f t k = one_turned job w (Create a turns class object) a (spends (turns + 1) (record (tells (Named object) (w.actors a)) { made = (w.actors a).made + 1 }))
    (Makes turns class object h.stops.stood (halts_here job w a turns h.stops.stood h.stops.stops) h.stops.is) k
turned job w (Learn a turns call) h s f t k = one_turned job w (Learn a turns call) a (spends turns (learns (known_at w ((w.actors a).child call)) (w.actors a)))
    (learns_turned job w (Learn a turns call) a turns call h.known h.stops.stood (known_at w ((w.actors a).child call)) h.is (halts_here job w a turns h.stops.stood h.stops.stops) h.stops.is) k
turned job w (Park a turns call) h s f t k = one_turned job w (Park a turns call) a (spends turns (parks turns ((w.actors a).child call) (w.actors a)))
    (parks_turned job w (Park a turns call) a turns call h.child h.stops.stood ((w.actors a).child call) refl h.of_call (halts_here job w a turns h.stops.stood h.stops.stops) h.stops.is) k
turned job w (Resume a) h s f t k = one_turned job w (Resume a) a (spends 0 (runs (w.actors a))) (Resumes h.child h.parked) k
turned job w (Reply a turns value) h s f t k = gives_turned job w (Reply a turns value) a turns value h.stood refl (halts_here job w a turns h.stood h.stops) h.is
    (λ call is. named_child job w a turns call t (record { stood = h.stood; stops = h.stops; is = h.is ∙ ap (λ v. Stands (Replies v)) is })) k
turned job w (End a turns ending state) h s f t k = ends_turned job w (End a turns ending state) a turns ending state h.stood (halts_here job w a turns h.stood h.stops) h.ends k
turned job w (Beat a) h s f t k = one_turned job w (Beat a) a (spends most_turns (tells Beaten (w.actors a))) (Pauses h.stood (halts_here job w a most_turns h.stood h.stops) h.is) k
turned job w (Match place) h s f t k = subst (λ o. Turned job w (Match place) k (w.actors k) ((matches place o w).actors k)) (sym h.1) (match_turned job w (Match place) place h.0 h.1 s f k)
turned job w (Arrive a) h s f t k = Stays
turned job w (Accept o a number) h s f t k = let p = picked_open job w o (w.objects o) a h.picked in accepts_turned job w (Accept o a number) o a number (w.objects o) ((s a).waits p.0 p.1) k
turned job w (Quit why) h s f t k = Stays
