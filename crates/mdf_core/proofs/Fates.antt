-- Results become known once.
use Rattle.std.proofs.Common.{◌≡◌, ◌+◌, ◌<◌, ◌≤◌, ◌⊎◌, ℕ, zero, suc, Bool, true, false, cond, List, [], ◌∷◌, ◌++◌, Option, Some, None, ℤ, refl, sym, ap, ◌∙◌, subst, slice_get, slice_set, remove, inl, inr, arith}
use Rattle.mpl_value.specs.CallAnswers.{leftmost_trap}
use Rattle.mpl_value.specs.declared.body.BodyResult.{BodyResult}
use Rattle.mpl_value.specs.declared.body.BodyResult.TheVariants as result
use Rattle.mpl_value.specs.declared.known.Known.{Known}
use Rattle.mpl_value.specs.declared.known.Known.TheVariants.{Value, Trapped}
use Rattle.mpl_value.specs.declared.known.Trap.{Trap}
use Rattle.mdf_actor.specs.Statuses.{is_over}
use Rattle.mdf_actor.specs.declared.status.ActorStatus.{ActorStatus}
use Rattle.mdf_actor.specs.declared.status.ActorStatus.TheVariants as status
use Rattle.mdf_code.specs.Alone.{Held, Words, Pending}
use Rattle.mdf_code.specs.Told.{Beaten, Gave, Learnt, Named, Told, has_given, most_turns}
use Rattle.mdf_code.proofs.ToldFrames.{nothing_is_given_twice}
use Rattle.mdf_match.specs.Ports.{missing_in}
use Rattle.mdf_core.specs.Actors.{Actor, Arc, Fate, Open, Is, Forwarded, Target, Port, Result, arguments_of, is_post, known_of}
use Rattle.mdf_core.specs.Calls.{arcs_to, awaits, becomes, calls_on, complete, completed, counts_ports, new_actor, poisoned, ready, waiting, with_arcs}
use Rattle.mdf_core.specs.Enabled.{Enabled, IsLog}
use Rattle.mdf_core.specs.Events.{Ending, Event, Fire, Send, Create, Learn, Park, Resume, Reply, End, Beat, Match, Arrive, Accept, Quit}
use Rattle.mdf_core.specs.Steps.{Log, accepted_start, accepts_on, after, becomes_forwarded, becomes_result, brings, brings_known, ends, fills_port, finishes, forwards, frees, frees_object, gives, learns, matches, parks, result_at_end, runs, sends, step, tells, unless_given}
use Rattle.mdf_core.specs.Worlds.{Job, Object, World, acts, change, fate_at, known_at, put, spends}
use Rattle.mdf_core.proofs.Changes.{MissesAt}
use Rattle.mdf_core.proofs.EachStep.{changes, is_send, picked_open}
use Rattle.mdf_core.proofs.Lists.{by_bool, put_here, put_there, same_or}
use Rattle.mdf_core.proofs.Rooted.{with_call}
use Rattle.mdf_core.proofs.Standing.{Standing, stand}
use Rattle.mdf_core.proofs.Transitions.{empty_misses, sends_sent}
use Rattle.mdf_core.proofs.TreeOfActors.{by_event, count_stays}

-- ---- an actor

abbrev pub is_early : ActorStatus → Bool
is_early (status.Waiting n) = true
is_early status.Ready = true
is_early status.Running = false
is_early (status.Parked child) = false
is_early status.Ended = false
is_early status.Poisoned = false

pub record Fated (x : Actor) : Type 0 where
  -- as long as it has given nothing and isn't over, its result is open
  pub unsettled : has_given x.told ≡ false → is_over x.status ≡ false → x.fate ≡ Open
  -- before it fires, its frame is told nothing
  pub untold : is_early x.status ≡ true → x.told ≡ []

-- a known result stays
pub record Fine (x y : Actor) : Type 0 where
  pub stays : (known : Known) → known_of x.fate ≡ Some known → known_of y.fate ≡ Some known
  pub fated : Fated x → Fated y

fine_same : (x : Actor) → Fine x x
fine_same x = record { stays = λ k h. h; fated = λ f. f }

fine_then : (x y z : Actor) → Fine x y → Fine y z → Fine x z
fine_then x y z a b = record { stays = λ k h. b.stays k (a.stays k h); fated = λ f. b.fated (a.fated f) }

-- where its fate is the same
fine_standing : (x y : Actor) → y.fate ≡ x.fate → (has_given y.told ≡ false → is_over y.status ≡ false → (has_given x.told ≡ false) × (is_over x.status ≡ false)) →
    (is_early y.status ≡ true → (y.told ≡ x.told) × (is_early x.status ≡ true)) → Fine x y
fine_standing x y same before early = record {
  stays = λ k h. ap known_of same ∙ h;
  fated = λ f. record {
    unsettled = λ g l. let b = before g l in same ∙ f.unsettled b.0 b.1;
    untold = λ e. let b = early e in b.0 ∙ f.untold b.1;
  };
}

-- its result isn't known, and it may have one
pub record Free (x : Actor) : Type 0 where
  pub unknown : known_of x.fate ≡ None
  pub may : has_given x.told ≡ false → is_over x.status ≡ false → ⊥

fine_fated : (x : Actor) (f : Fate) → Free x → Fine x (record x { fate = f })
fine_fated x f free = record {
  stays = λ k h. absurd (cc (h, free.unknown));
  fated = λ g. record { unsettled = λ l m. absurd (free.may l m); untold = g.untold };
}

-- ---- the parts of a step

abbrev All : World → World → Type 0
All w v = (k : ℕ) → Fine (w.actors k) (v.actors k)

all_same : (w : World) → All w w
all_same w k = fine_same (w.actors k)

all_then : (w v u : World) → All w v → All v u → All w u
all_then w v u a b k = fine_then (w.actors k) (v.actors k) (u.actors k) (a k) (b k)

all_put : (w v : World) (c : ℕ) (y : Actor) → v.actors ≡ put c y w.actors → Fine (w.actors c) y → All w v
all_put w v c y is r k = at (same_or k c) where
  at : (k ≡ c) ⊎ (k ≡ c → ⊥) → Fine (w.actors k) (v.actors k)
  at (inl same) = subst (λ d. Fine (w.actors d) (v.actors d)) (sym same) (subst (Fine (w.actors c)) (sym (ap (λ (f : ℕ → Actor). f c) is ∙ put_here c y w.actors)) r)
  at (inr differ) = subst (Fine (w.actors k)) (sym (ap (λ (f : ℕ → Actor). f k) is ∙ put_there c k y w.actors differ)) (fine_same (w.actors k))

acts_all : (a t : ℕ) (f : Actor → Actor) (w : World) → Fine (w.actors a) (spends t (f (w.actors a))) → All w (acts a t f w)
acts_all a t f w r = all_put w (acts a t f w) a (spends t (f (w.actors a))) refl r

becomes_all : (c : ℕ) (known : Known) (w : World) → Free (w.actors c) → All w (becomes c known w)
becomes_all c known w free = all_put w (becomes c known w) c (record (w.actors c) { fate = Is known }) refl (fine_fated (w.actors c) (Is known) free)

forwards_all : (a : ℕ) (child : Option ℕ) (w : World) → Free (w.actors a) → All w (forwards a child w)
forwards_all a None w free = all_same w
forwards_all a (Some child) w free = all_put w (forwards a (Some child) w) a (record (w.actors a) { fate = Forwarded child }) refl (fine_fated (w.actors a) (Forwarded child) free)

gives_all : (a : ℕ) (value : Held) (w : World) → Free (w.actors a) → All w (gives a value w)
gives_all a (Words words) w free = becomes_all a (Value words) w free
gives_all a (Pending call) w free = forwards_all a ((w.actors a).child call) w free

result_all : (a : ℕ) (r : BodyResult) (w : World) → Free (w.actors a) → All w (becomes_result a r w)
result_all a result.Open w free = all_same w
result_all a (result.Known known) w free = becomes_all a known w free
result_all a result.Unknown w free = all_same w

unless_all : (f : Fate) (w settled : World) → (f ≡ Open → All w settled) → All w (unless_given f settled w)
unless_all Open w settled q = q refl
unless_all (Is known) w settled q = all_same w
unless_all (Forwarded child) w settled q = all_same w

frees_object_actors : (o : ℤ) (state : List ℤ) (object : Option Object) (w : World) → (frees_object o state object w).actors ≡ w.actors
frees_object_actors o state None w = refl
frees_object_actors o state (Some object) w = refl

pub frees_actors : (x : Actor) (state : List ℤ) (w : World) → (frees x state w).actors ≡ w.actors
frees_actors x state w = at (is_post x.call) where
  at : (b : Bool) → (cond b (frees_object x.call.object state (w.objects x.call.object) w) w).actors ≡ w.actors
  at true = frees_object_actors x.call.object state (w.objects x.call.object) w
  at false = refl

-- an actor that waits or is new: its result is open
pub record Fresh (x : Actor) : Type 0 where
  pub fate : x.fate ≡ Open
  pub over : is_over x.status ≡ false
  pub early : is_early x.status ≡ true

completed_all : (c : ℕ) (x : Actor) (t : Option Trap) (w : World) → Fresh (w.actors c) → All w (completed c x t w)
completed_all c x (Some trap) w fresh =
    let v = change c poisoned w in let here : v.actors c ≡ poisoned (w.actors c) = put_here c (poisoned (w.actors c)) w.actors in
    all_then w v (completed c x (Some trap) w)
    (all_put w v c (poisoned (w.actors c)) refl (fine_standing (w.actors c) (poisoned (w.actors c)) refl (λ g l. absurd (cc l)) (λ e. absurd (cc e))))
    (becomes_all c (Trapped trap) v (record {
      unknown = ap (λ (y : Actor). known_of y.fate) here ∙ ap known_of fresh.fate;
      may = λ g l. absurd (cc (l, ap (λ (y : Actor). is_over y.status) here));
    }))
completed_all c x None w fresh = at (is_post x.call) where
  at : (b : Bool) → All w (change c (cond b complete ready) w)
  at true = all_put w (change c complete w) c (complete (w.actors c)) refl (fine_standing (w.actors c) (complete (w.actors c)) refl (λ g l. (g, fresh.over)) (λ e. (refl, fresh.early)))
  at false = all_put w (change c ready w) c (ready (w.actors c)) refl (fine_standing (w.actors c) (ready (w.actors c)) refl (λ g l. (g, fresh.over)) (λ e. (refl, fresh.early)))

awaits_all : (c : ℕ) (x : Actor) (n : ℕ) (w : World) → Fresh (w.actors c) → All w (awaits c x n w)
awaits_all c x zero w fresh = completed_all c x (leftmost_trap (arguments_of x.ports)) w fresh
awaits_all c x (suc n) w fresh = all_put w (change c (waiting (suc n)) w) c (waiting (suc n) (w.actors c)) refl (fine_standing (w.actors c) (waiting (suc n) (w.actors c)) refl (λ g l. (g, fresh.over)) (λ e. (refl, fresh.early)))

counts_all : (c : ℕ) (w : World) → Fresh (w.actors c) → All w (counts_ports c w)
counts_all c w fresh = awaits_all c (w.actors c) (missing_in (w.actors c).ports) w fresh

fills_all : (c port : ℕ) (known : Known) (o : Option (Option Known)) (w : World) → (o ≡ Some None → Fresh (w.actors c)) → All w (fills_port c port known o w)
fills_all c port known None w fresh = all_same w
fills_all c port known (Some (Some other)) w fresh = all_same w
fills_all c port known (Some None) w fresh = let f : Actor → Actor = λ x. record x { ports = slice_set x.ports port (Some known) } in
    let v = change c f w in let here : v.actors c ≡ f (w.actors c) = put_here c (f (w.actors c)) w.actors in let was = fresh refl in
    all_then w v (fills_port c port known (Some None) w)
    (all_put w v c (f (w.actors c)) refl (fine_standing (w.actors c) (f (w.actors c)) refl (λ g l. (g, was.over)) (λ e. (refl, was.early))))
    (counts_all c v (record { fate = ap (λ (y : Actor). y.fate) here ∙ was.fate; over = ap (λ (y : Actor). is_over y.status) here ∙ was.over; early = ap (λ (y : Actor). is_early y.status) here ∙ was.early }))

-- a result that was forwarded is of an actor that gave it or is over
forwarded_free : (x : Actor) (child : ℕ) → Fated x → x.fate ≡ Forwarded child → Free x
forwarded_free x child f is = record { unknown = ap known_of is; may = λ g l. absurd (cc (f.unsettled g l, is)) }

forwarded_all : (c : ℕ) (known : Known) (f : Fate) (w : World) → fate_at w c ≡ f → Fated (w.actors c) → All w (becomes_forwarded c known f w)
forwarded_all c known (Forwarded child) w is fated = becomes_all c known w (forwarded_free (w.actors c) child fated is)
forwarded_all c known Open w is fated = all_same w
forwarded_all c known (Is other) w is fated = all_same w

-- ---- events

-- an actor that waits is fresh
pub waiting_fresh : (x : Actor) (n : ℕ) → x.status ≡ status.Waiting n → Fated x → Fresh x
waiting_fresh x n is f = record {
  fate = f.unsettled (ap has_given (f.untold (ap is_early is))) (ap is_over is);
  over = ap is_over is;
  early = ap is_early is;
}

-- an actor with a missing port waits
pub missing_fresh : (x : Actor) (n : ℕ) → MissesAt x.status (missing_in x.ports) → missing_in x.ports ≡ suc n → Fated x → Fresh x
missing_fresh x n misses is f = at x.status refl misses where
  at : (s : ActorStatus) → x.status ≡ s → MissesAt s (missing_in x.ports) → Fresh x
  at (status.Waiting m) e h = waiting_fresh x m e f
  at status.Ready e h = absurd (omega (arith, h, is))
  at status.Running e h = absurd (omega (arith, h, is))
  at (status.Parked child) e h = absurd (omega (arith, h, is))
  at status.Ended e h = absurd (omega (arith, h, is))
  at status.Poisoned e h = absurd (omega (arith, h, is))

abbrev pub AllFated : World → Type 0
AllFated w = (k : ℕ) → Fated (w.actors k)

brings_all : (known : Known) (to : Target) (w : World) → ((k : ℕ) → Standing w k) → AllFated w → All w (brings known to w)
brings_all known (Port c port) w s f =
    fills_all c port known (slice_get (w.actors c).ports port) w (λ empty. let m = empty_misses (w.actors c).ports port empty in missing_fresh (w.actors c) m.0 (s c).misses m.1 (f c))
brings_all known (Result c) w s f = forwarded_all c known (fate_at w c) w refl (f c)

-- what is due is of no account
without_due : (w : World) (due : List Arc) → ((k : ℕ) → Standing w k) → (k : ℕ) → Standing (record w { due = due }) k
without_due w due s k = record { misses = (s k).misses; waits = (s k).waits; beyond = (s k).beyond }

matches_all : (place : ℕ) (o : Option Arc) (w : World) → ((k : ℕ) → Standing w k) → AllFated w → All w (matches place o w)
matches_all place None w s f = all_same w
matches_all place (Some arc) w s f = let v = record w { due = remove w.due place } in at (known_at w (Some arc.from)) where
  at : (o : Option Known) → All w (brings_known o arc.to (record w { due = remove w.due place }))
  at None = all_same w
  at (Some known) = brings_all known arc.to (record w { due = remove w.due place }) (without_due w (remove w.due place) s) f

accepts_all : (o : ℤ) (a number : ℕ) (object : Option Object) (w : World) → Fresh (w.actors a) → All w (accepts_on o a number object w)
accepts_all o a number None w fresh = all_same w
accepts_all o a number (Some object) w fresh = let x = w.actors a in let y : Actor = record x { status = status.Ready; start = accepted_start x object.state number } in
    all_put w (accepts_on o a number (Some object) w) a y refl (fine_standing x y refl (λ g l. (g, fresh.over)) (λ e. (refl, fresh.early)))

-- a frame that runs on: it is told what is no gift
told_fine : (x : Actor) (t : Told) (n m : ℕ) → (has_given (t ∷ x.told) ≡ false → has_given x.told ≡ false) → x.status ≡ status.Running → Fine x (record (tells t x) { made = n; spent = m })
told_fine x t n m given running = fine_standing x (record (tells t x) { made = n; spent = m }) refl (λ g l. (given g, ap is_over running)) (λ e. absurd (cc (e, ap is_early running)))

learns_fine : (known : Option Known) (x : Actor) (t : ℕ) → x.status ≡ status.Running → Fine x (spends t (learns known x))
learns_fine None x t running = fine_standing x (spends t x) refl (λ g l. (g, l)) (λ e. (refl, e))
learns_fine (Some known) x t running = told_fine x (Learnt known) x.made (x.spent + t) (λ g. g) running

parks_fine : (turns : ℕ) (child : Option ℕ) (x : Actor) (t : ℕ) → x.status ≡ status.Running → Fine x (spends t (parks turns child x))
parks_fine turns None x t running = fine_standing x (spends t x) refl (λ g l. (g, l)) (λ e. (refl, e))
parks_fine turns (Some child) x t running = fine_standing x (spends t (parks turns (Some child) x)) refl (λ g l. (g, ap is_over running)) (λ e. absurd (cc e))

runs_fine : (x : Actor) (t : ℕ) → is_over x.status ≡ false → Fine x (spends t (runs x))
runs_fine x t over = fine_standing x (spends t (runs x)) refl (λ g l. (g, over)) (λ e. absurd (cc e))

ends_fine : (x : Actor) (turns t : ℕ) → Fine x (spends t (ends turns x))
ends_fine x turns t = fine_standing x (spends t (ends turns x)) refl (λ g l. absurd (cc l)) (λ e. absurd (cc e))

reply_all : (a turns : ℕ) (value : Held) (w : World) → (w.actors a).status ≡ status.Running → has_given (w.actors a).told ≡ false → Fated (w.actors a) → All w (gives a value (acts a turns (tells Gave) w))
reply_all a turns value w running given f =
    let v = acts a turns (tells Gave) w in let here : v.actors a ≡ spends turns (tells Gave (w.actors a)) = put_here a (spends turns (tells Gave (w.actors a))) w.actors in
    all_then w v (gives a value v) (acts_all a turns (tells Gave) w (told_fine (w.actors a) Gave (w.actors a).made ((w.actors a).spent + turns) (λ g. absurd (cc g)) running))
    (gives_all a value v (record {
      unknown = ap (λ (y : Actor). known_of y.fate) here ∙ ap known_of (f.unsettled given (ap is_over running));
      may = λ g l. absurd (cc (g, ap (λ (y : Actor). has_given y.told) here));
    }))

end_all : (job : Job) (a turns : ℕ) (ending : Ending) (state : List ℤ) (w : World) → All w (finishes job a turns ending state w)
end_all job a turns ending state w =
    let v = acts a turns (ends turns) w in let here : v.actors a ≡ spends turns (ends turns (w.actors a)) = put_here a (spends turns (ends turns (w.actors a))) w.actors in
    let freed = frees (w.actors a) state v in let same : freed.actors ≡ v.actors = frees_actors (w.actors a) state v in
    let freed_is : freed.actors a ≡ spends turns (ends turns (w.actors a)) = ap (λ (g : ℕ → Actor). g a) same ∙ here in
    let r = result_at_end job (w.actors a) ending in
    all_then w v (finishes job a turns ending state w) (acts_all a turns (ends turns) w (ends_fine (w.actors a) turns turns))
    (all_then v freed (finishes job a turns ending state w) (subst (λ (g : ℕ → Actor). (k : ℕ) → Fine (v.actors k) (g k)) (sym same) (all_same v))
    (unless_all (w.actors a).fate freed (becomes_result a r freed) (λ open_. result_all a r freed (record {
      unknown = ap (λ (y : Actor). known_of y.fate) freed_is ∙ ap known_of open_;
      may = λ g l. absurd (cc (l, ap (λ (y : Actor). is_over y.status) freed_is));
    }))))

-- a frame gives once
gives_first : (job : Job) (w : World) (a turns : ℕ) (value : Held) → Enabled job w (Reply a turns value) → has_given (w.actors a).told ≡ false
gives_first job w a turns value h = by_bool (has_given (w.actors a).told)
    (λ t. absurd (nothing_is_given_twice job.image (w.actors a).start (w.actors a).told h.stood value h.stops.halts t h.is)) (λ f. f)

step_fine : (job : Job) (w : World) (e : Event) → Enabled job w e → ((k : ℕ) → Standing w k) → AllFated w → is_send e ≡ false → All w (step job w e)
step_fine job w (Fire a) h s f n = acts_all a 1 runs w (runs_fine (w.actors a) 1 (ap is_over h.ready))
step_fine job w (Send a turns callee member object arguments) h s f n = absurd (cc n)
step_fine job w (Create a turns class object) h s f n =
    acts_all a (turns + 1) (λ x. record (tells (Named object) x) { made = x.made + 1 }) w
    (told_fine (w.actors a) (Named object) ((w.actors a).made + 1) ((w.actors a).spent + (turns + 1)) (λ g. g) h.stops.stops.running)
step_fine job w (Learn a turns call) h s f n =
    acts_all a turns (learns (known_at w ((w.actors a).child call))) w (learns_fine (known_at w ((w.actors a).child call)) (w.actors a) turns h.stops.stops.running)
step_fine job w (Park a turns call) h s f n = acts_all a turns (parks turns ((w.actors a).child call)) w (parks_fine turns ((w.actors a).child call) (w.actors a) turns h.stops.stops.running)
step_fine job w (Resume a) h s f n = acts_all a 0 runs w (runs_fine (w.actors a) 0 (ap is_over h.parked))
step_fine job w (Reply a turns value) h s f n = reply_all a turns value w h.stops.running (gives_first job w a turns value h) (f a)
step_fine job w (End a turns ending state) h s f n = end_all job a turns ending state w
step_fine job w (Beat a) h s f n = acts_all a most_turns (tells Beaten) w (told_fine (w.actors a) Beaten (w.actors a).made ((w.actors a).spent + most_turns) (λ g. g) h.stops.running)
step_fine job w (Match place) h s f n = matches_all place (slice_get w.due place) w s f
step_fine job w (Arrive a) h s f n = all_same w
step_fine job w (Accept o a number) h s f n =
    let p = picked_open job w o (w.objects o) a h.picked in accepts_all o a number (w.objects o) w (waiting_fresh (w.actors a) 0 ((s a).waits p.0 p.1) (f a))
step_fine job w (Quit why) h s f n = all_same w

-- ---- a call

calls_fine : (job : Job) (callee member : ℕ) (x : Actor) (t : ℕ) → x.status ≡ status.Running → Fine x (spends t (calls_on job callee member x))
calls_fine job callee member x t running = fine_standing x (spends t (calls_on job callee member x)) refl (λ g l. (g, ap is_over running)) (λ e. absurd (cc (e, ap is_early running)))

module _ (job : Job) (w : World) (a turns member : ℕ) (object : ℤ) (arguments : List Held) (there : a < w.count) (running : (w.actors a).status ≡ status.Running) where
  abbrev y : World
  y = with_call job a turns w.count member object arguments w

  abbrev caller : Actor
  caller = spends (turns + 1) (calls_on job w.count member (w.actors a))

  abbrev new : Actor
  new = new_actor job a (w.actors a) member object arguments

  new_is : y.actors w.count ≡ new
  new_is = put_here w.count new (put a caller w.actors)

  new_fresh : Fresh (y.actors w.count)
  new_fresh = subst Fresh (sym new_is) (record { fate = refl; over = refl; early = refl })

  old_fine : (k : ℕ) → (k ≡ w.count → ⊥) → Fine (w.actors k) (y.actors k)
  old_fine k old = at (same_or k a) where
    at : (k ≡ a) ⊎ (k ≡ a → ⊥) → Fine (w.actors k) (y.actors k)
    at (inl same) = subst (λ d. Fine (w.actors d) (y.actors d)) (sym same)
        (subst (Fine (w.actors a)) (sym (put_there w.count a new (put a caller w.actors) (λ e. absurd (omega (arith, e, there))) ∙ put_here a caller w.actors)) (calls_fine job w.count member (w.actors a) (turns + 1) running))
    at (inr differ) = subst (Fine (w.actors k)) (sym (put_there w.count k new (put a caller w.actors) old ∙ put_there a k caller w.actors differ)) (fine_same (w.actors k))

  sent : World
  sent = sends job a turns w.count member object arguments w

  counted : All (with_call job a turns w.count member object arguments w) (sends job a turns w.count member object arguments w)
  counted = counts_all w.count (with_arcs (arcs_to (w.actors a).child w.count 0 arguments) y) new_fresh

  pub send_stays : (k : ℕ) → (k ≡ w.count → ⊥) → Fine (w.actors k) ((sends job a turns w.count member object arguments w).actors k)
  send_stays k old = fine_then (w.actors k) (y.actors k) ((sends job a turns w.count member object arguments w).actors k) (old_fine k old) (counted k)

  pub send_fated : AllFated w → AllFated (sends job a turns w.count member object arguments w)
  send_fated f k = at (same_or k w.count) where
    at : (k ≡ w.count) ⊎ (k ≡ w.count → ⊥) → Fated ((sends job a turns w.count member object arguments w).actors k)
    at (inl same) = (counted k).fated (subst (λ d. Fated (y.actors d)) (sym same) (subst Fated (sym new_is) (record { unsettled = λ g l. refl; untold = λ e. refl })))
    at (inr old) = (send_stays k old).fated (f k)

-- ---- logs

step_fated : (job : Job) (w : World) (e : Event) → Enabled job w e → ((k : ℕ) → Standing w k) → AllFated w → AllFated (step job w e)
step_fated job w e h s f = by_event e
    (λ a turns callee member object arguments is. subst (λ d. AllFated (step job w d)) (sym is) (call a turns callee member object arguments (subst (Enabled job w) is h)))
    (λ other. λ k. (step_fine job w e h s f other k).fated (f k)) where
      call : (a turns callee member : ℕ) (object : ℤ) (arguments : List Held) → Enabled job w (Send a turns callee member object arguments) → AllFated (step job w (Send a turns callee member object arguments))
      call a turns callee member object arguments m = subst (λ c. AllFated (step job w (Send a turns c member object arguments))) (sym m.next)
          (send_fated job w a turns member object arguments m.stops.stops.there m.stops.stops.running f)

pub fated : (job : Job) (log : Log) → IsLog job log → AllFated (after job log)
fated job [] h = λ k. record { unsettled = λ g l. refl; untold = λ e. refl }
fated job (e ∷ log) h = step_fated job (after job log) e h.0.1 (stand job log h.1) (fated job log h.1)

-- what is there stays fine
pub step_stays : (job : Job) (w : World) (e : Event) → Enabled job w e → ((k : ℕ) → Standing w k) → AllFated w → (k : ℕ) → k < w.count → Fine (w.actors k) ((step job w e).actors k)
step_stays job w e h s f k there = by_event e
    (λ a turns callee member object arguments is. subst (λ d. Fine (w.actors k) ((step job w d).actors k)) (sym is) (call a turns callee member object arguments (subst (Enabled job w) is h)))
    (λ other. step_fine job w e h s f other k) where
      call : (a turns callee member : ℕ) (object : ℤ) (arguments : List Held) → Enabled job w (Send a turns callee member object arguments) →
          Fine (w.actors k) ((step job w (Send a turns callee member object arguments)).actors k)
      call a turns callee member object arguments m = subst (λ c. Fine (w.actors k) ((step job w (Send a turns c member object arguments)).actors k)) (sym m.next)
          (send_stays job w a turns member object arguments m.stops.stops.there m.stops.stops.running k (λ e. absurd (omega (arith, e, there))))

-- no actor goes
pub count_grows : (job : Job) (w : World) (e : Event) → Enabled job w e → w.count ≤ (step job w e).count
count_grows job w e h = by_event e
    (λ a turns callee member object arguments is. subst (λ d. w.count ≤ (step job w d).count) (sym is) (call a turns callee member object arguments (subst (Enabled job w) is h)))
    (λ other. omega (arith, count_stays job w (step job w e) e (changes job w e h) other)) where
      call : (a turns callee member : ℕ) (object : ℤ) (arguments : List Held) → Enabled job w (Send a turns callee member object arguments) → w.count ≤ (step job w (Send a turns callee member object arguments)).count
      call a turns callee member object arguments m = subst (λ c. w.count ≤ (step job w (Send a turns c member object arguments)).count) (sym m.next)
          (let there : a < w.count = m.stops.stops.there in omega (arith, (sends_sent job a turns w.count member object arguments w (λ same. absurd (omega (arith, same, there)))).count))

known_later : (job : Job) (more log : Log) → IsLog job (more ++ log) → (c : ℕ) (known : Known) → c < (after job log).count → known_at (after job log) (Some c) ≡ Some known →
    (c < (after job (more ++ log)).count) × (known_at (after job (more ++ log)) (Some c) ≡ Some known)
known_later job [] log h c known there is = (there, is)
known_later job (e ∷ more) log h c known there is = let b = known_later job more log h.1 c known there is in let w = after job (more ++ log) in
    (omega (arith, b.0, count_grows job w e h.0.1), (step_stays job w e h.0.1 (stand job (more ++ log) h.1) (fated job (more ++ log) h.1) c b.0).stays known b.1)

pub known_stays : (job : Job) (more log : Log) → IsLog job (more ++ log) → (c : ℕ) (known : Known) → c < (after job log).count → known_at (after job log) (Some c) ≡ Some known →
    known_at (after job (more ++ log)) (Some c) ≡ Some known
known_stays job more log h c known there is = (known_later job more log h c known there is).1

-- a frame that gives finds its result open
pub gives_open : (job : Job) (log : Log) (a turns : ℕ) (value : Held) → IsLog job log → Enabled job (after job log) (Reply a turns value) → fate_at (after job log) a ≡ Open
gives_open job log a turns value h e = (fated job log h a).unsettled (gives_first job (after job log) a turns value e) (ap is_over e.stops.running)
