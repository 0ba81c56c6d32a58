-- At most one arc leads to each port and to each result, along a log.
use Rattle.std.proofs.Common.{◌≡◌, ◌+◌, ◌<◌, ◌≤◌, ◌&&◌, ◌⊎◌, inl, inr, ℕ, zero, suc, Bool, true, false, not, cond, List, [], ◌∷◌, ◌++◌, Option, Some, None, ℤ, refl, ap, ap₂, subst, filter, slice_get, remove, arith, nat_eq, eqb-true}
use Rattle.std.specs.List.{AllByRecursion}
use Rattle.mpl_value.specs.CallAnswers.{leftmost_trap}
use Rattle.mpl_value.specs.declared.body.BodyResult.{BodyResult}
use Rattle.mpl_value.specs.declared.body.BodyResult.TheVariants as result
use Rattle.mpl_value.specs.declared.known.Known.{Known}
use Rattle.mpl_value.specs.declared.known.Known.TheVariants.{Value, Trapped}
use Rattle.mpl_value.specs.declared.known.Trap.{Trap}
use Rattle.mdf_code.specs.Alone.{Held, Words, Pending}
use Rattle.mdf_code.specs.Told.{Gave}
use Rattle.mdf_match.specs.Ports.{missing_in}
use Rattle.mdf_core.specs.Actors.{Actor, Arc, Fate, Open, Is, Forwarded, Target, Port, Result, arguments_of, is_known, is_post}
use Rattle.mdf_core.specs.Arguments.{Leads, LeadsTo}
use Rattle.mdf_core.specs.Awaited.{PassesAlong, PassesTo, one_if, same_target, times_awaited, times_there}
use Rattle.mdf_core.specs.Calls.{arc_to, arcs_to, awaits, becomes, completed, counts_ports, leads_from, poisoned, with_arcs}
use Rattle.mdf_core.specs.Causes.{Passes}
use Rattle.mdf_core.specs.Enabled.{Enabled, IsLog}
use Rattle.mdf_core.specs.Events.{Ending, Event, Fire, Send, Create, Learn, Park, Resume, Reply, End, Beat, Match, Arrive, Accept, Quit}
use Rattle.mdf_core.specs.Steps.{Log, accepts_on, after, becomes_forwarded, becomes_result, brings, brings_known, ends, fills_port, finishes, forwards, frees, frees_object, gives, matches, result_at_end, step, tells, unless_given}
use Rattle.mdf_core.specs.Worlds.{Job, Object, World, acts, change, fate_at, known_at}
use Rattle.mdf_core.proofs.Fates.{gives_open}
use Rattle.mdf_core.proofs.Lists.{by_bool}
use Rattle.mdf_core.proofs.Passing.{pass}
use Rattle.mdf_core.proofs.Rooted.{with_call}
use Rattle.mdf_core.proofs.Turning.{with_port}
use Rattle.mdf_core.proofs.Wired.{holds}

-- ---- targets

both_true : (a b : Bool) → (a && b) ≡ true → (a ≡ true) × (b ≡ true)
both_true true b h = (refl, h)
both_true false b h = absurd (cc h)

target_is : (s t : Target) → same_target s t ≡ true → s ≡ t
target_is (Port c port) (Port d other) h = let k = both_true (nat_eq c d) (nat_eq port other) h in ap₂ Port (eqb-true c d k.0) (eqb-true port other k.1)
target_is (Port c port) (Result b) h = absurd (cc h)
target_is (Result a) (Port d other) h = absurd (cc h)
target_is (Result a) (Result b) h = ap Result (eqb-true a b h)

one_at_most : (b : Bool) → one_if b ≤ 1
one_at_most true = omega arith
one_at_most false = omega arith

none_if : (b : Bool) → (b ≡ true → ⊥) → one_if b ≡ 0
none_if true h = absurd (h refl)
none_if false h = refl

-- ---- the parts of a step

module _ (to : Target) where
  abbrev T : List Arc → ℕ
  T = times_there to

  abbrev N : World → ℕ
  N w = times_awaited w to

  times_append : (xs ys : List Arc) → times_there to (xs ++ ys) ≡ times_there to xs + times_there to ys
  times_append [] ys = omega arith
  times_append (x ∷ xs) ys = omega (arith, times_append xs ys)

  times_split : (test : Arc → Bool) (xs : List Arc) → times_there to (filter test xs) + times_there to (filter (λ x. not (test x)) xs) ≡ times_there to xs
  times_split test [] = refl
  times_split test (x ∷ xs) = at (test x) (times_split test xs) where
    at : (b : Bool) → times_there to (filter test xs) + times_there to (filter (λ y. not (test y)) xs) ≡ times_there to xs →
        times_there to (cond b (x ∷ filter test xs) (filter test xs)) + times_there to (cond (not b) (x ∷ filter (λ y. not (test y)) xs) (filter (λ y. not (test y)) xs)) ≡ one_if (same_target x.to to) + times_there to xs
    at true h = omega (arith, h)
    at false h = omega (arith, h)

  times_remove : (xs : List Arc) (place : ℕ) → times_there to (remove xs place) ≤ times_there to xs
  times_remove [] zero = omega arith
  times_remove [] (suc place) = omega arith
  times_remove (x ∷ xs) zero = omega arith
  times_remove (x ∷ xs) (suc place) = let k = times_remove xs place in omega (arith, k)

  becomes_times : (c : ℕ) (known : Known) (w : World) → times_awaited (becomes c known w) to ≤ times_awaited w to
  becomes_times c known w = omega (arith, times_append w.due (filter (leads_from c) w.waits), times_split (leads_from c) w.waits)

  arcs_times : (arcs : List Arc) (w : World) → times_awaited (with_arcs arcs w) to ≤ times_awaited w to + times_there to arcs
  arcs_times arcs w = omega (
    arith,
    times_append w.waits (filter (λ arc. not (is_known (fate_at w arc.from))) arcs),
    times_append w.due (filter (λ arc. is_known (fate_at w arc.from)) arcs),
    times_split (λ arc. is_known (fate_at w arc.from)) arcs,
  )

  forwards_times : (a : ℕ) (o : Option ℕ) (w : World) → times_awaited (forwards a o w) to ≤ times_awaited w to + one_if (same_target (Result a) to)
  forwards_times a None w = omega arith
  forwards_times a (Some child) w = let k = arcs_times (record { from = child; to = Result a } ∷ []) (change a (λ x. record x { fate = Forwarded child }) w) in omega (arith, k)

  gives_times : (a : ℕ) (value : Held) (w : World) → times_awaited (gives a value w) to ≤ times_awaited w to + one_if (same_target (Result a) to)
  gives_times a (Words words) w = let k = becomes_times a (Value words) w in omega (arith, k)
  gives_times a (Pending call) w = forwards_times a ((w.actors a).child call) w

  result_times : (a : ℕ) (r : BodyResult) (w : World) → times_awaited (becomes_result a r w) to ≤ times_awaited w to
  result_times a result.Open w = omega arith
  result_times a (result.Known known) w = becomes_times a known w
  result_times a result.Unknown w = omega arith

  unless_times : (f : Fate) (w settled : World) → times_awaited settled to ≤ times_awaited w to → times_awaited (unless_given f settled w) to ≤ times_awaited w to
  unless_times Open w settled h = h
  unless_times (Is known) w settled h = omega arith
  unless_times (Forwarded child) w settled h = omega arith

  frees_object_times : (o : ℤ) (state : List ℤ) (object : Option Object) (w : World) → times_awaited (frees_object o state object w) to ≤ times_awaited w to
  frees_object_times o state None w = omega arith
  frees_object_times o state (Some object) w = omega arith

  frees_times : (x : Actor) (state : List ℤ) (w : World) → times_awaited (frees x state w) to ≤ times_awaited w to
  frees_times x state w = at (is_post x.call) where
    at : (b : Bool) → times_awaited (cond b (frees_object x.call.object state (w.objects x.call.object) w) w) to ≤ times_awaited w to
    at true = frees_object_times x.call.object state (w.objects x.call.object) w
    at false = omega arith

  finishes_times : (job : Job) (a t : ℕ) (ending : Ending) (state : List ℤ) (w : World) → times_awaited (finishes job a t ending state w) to ≤ times_awaited w to
  finishes_times job a t ending state w =
      let v = acts a t (ends t) w in let freed = frees (w.actors a) state v in let r = result_at_end job (w.actors a) ending in
      let k = frees_times (w.actors a) state v in let l = unless_times (w.actors a).fate freed (becomes_result a r freed) (result_times a r freed) in omega (arith, k, l)

  completed_times : (c : ℕ) (x : Actor) (t : Option Trap) (w : World) → times_awaited (completed c x t w) to ≤ times_awaited w to
  completed_times c x (Some trap) w = becomes_times c (Trapped trap) (change c poisoned w)
  completed_times c x None w = omega arith

  awaits_times : (c : ℕ) (x : Actor) (n : ℕ) (w : World) → times_awaited (awaits c x n w) to ≤ times_awaited w to
  awaits_times c x zero w = completed_times c x (leftmost_trap (arguments_of x.ports)) w
  awaits_times c x (suc n) w = omega arith

  counts_times : (c : ℕ) (w : World) → times_awaited (counts_ports c w) to ≤ times_awaited w to
  counts_times c w = awaits_times c (w.actors c) (missing_in (w.actors c).ports) w

  fills_times : (c port : ℕ) (known : Known) (o : Option (Option Known)) (w : World) → times_awaited (fills_port c port known o w) to ≤ times_awaited w to
  fills_times c port known None w = omega arith
  fills_times c port known (Some (Some other)) w = omega arith
  fills_times c port known (Some None) w = counts_times c (change c (with_port port known) w)

  forwarded_times : (c : ℕ) (known : Known) (f : Fate) (w : World) → times_awaited (becomes_forwarded c known f w) to ≤ times_awaited w to
  forwarded_times c known (Forwarded child) w = becomes_times c known w
  forwarded_times c known Open w = omega arith
  forwarded_times c known (Is other) w = omega arith

  brings_times : (known : Known) (target : Target) (w : World) → times_awaited (brings known target w) to ≤ times_awaited w to
  brings_times known (Port c port) w = fills_times c port known (slice_get (w.actors c).ports port) w
  brings_times known (Result c) w = forwarded_times c known (fate_at w c) w

  known_times : (o : Option Known) (target : Target) (w : World) → times_awaited (brings_known o target w) to ≤ times_awaited w to
  known_times None target w = omega arith
  known_times (Some known) target w = brings_times known target w

  matches_times : (place : ℕ) (o : Option Arc) (w : World) → times_awaited (matches place o w) to ≤ times_awaited w to
  matches_times place None w = omega arith
  matches_times place (Some arc) w = let k = known_times (known_at w (Some arc.from)) arc.to (record w { due = remove w.due place }) in let l = times_remove w.due place in omega (arith, k, l)

  accepts_times : (o : ℤ) (a number : ℕ) (object : Option Object) (w : World) → times_awaited (accepts_on o a number object w) to ≤ times_awaited w to
  accepts_times o a number None w = omega arith
  accepts_times o a number (Some object) w = omega arith

  -- ---- events

  -- the arcs that an event adds
  abbrev added : World → Event → ℕ
  added w (Send a turns callee member object arguments) = times_there to (arcs_to (w.actors a).child callee 0 arguments)
  added w (Reply a turns value) = one_if (same_target (Result a) to)
  added w other = 0

  step_times : (job : Job) (w : World) (e : Event) → times_awaited (step job w e) to ≤ times_awaited w to + added w e
  step_times job w (Fire a) = omega arith
  step_times job w (Send a turns callee member object arguments) = let y = with_call job a turns callee member object arguments w in let arcs = arcs_to (w.actors a).child callee 0 arguments in
      let k = counts_times callee (with_arcs arcs y) in let l = arcs_times arcs y in omega (arith, k, l)
  step_times job w (Create a turns class object) = omega arith
  step_times job w (Learn a turns call) = omega arith
  step_times job w (Park a turns call) = omega arith
  step_times job w (Resume a) = omega arith
  step_times job w (Reply a turns value) = gives_times a value (acts a turns (tells Gave) w)
  step_times job w (End a turns ending state) = let k = finishes_times job a turns ending state w in omega (arith, k)
  step_times job w (Beat a) = omega arith
  step_times job w (Match place) = let k = matches_times place (slice_get w.due place) w in omega (arith, k)
  step_times job w (Arrive a) = omega arith
  step_times job w (Accept o a number) = let k = accepts_times o a number (w.objects o) w in omega (arith, k)
  step_times job w (Quit why) = omega arith

  -- none lead there, where each that would is refused
  none_there : (P : Arc → Type 0) → ((arc : Arc) → P arc → arc.to ≡ to → ⊥) → (xs : List Arc) → AllByRecursion P xs → times_there to xs ≡ 0
  none_there P refused [] h = refl
  none_there P refused (x ∷ xs) h = omega (arith, none_if (same_target x.to to) (λ is. refused x h.0 (target_is x.to to is)), none_there P refused xs h.1)

-- ---- new arcs

arc_times : (to : Target) (c port : ℕ) (o : Option ℕ) → (same_target (Port c port) to ≡ true → ⊥) → times_there to (arc_to c port o) ≡ 0
arc_times to c port None h = refl
arc_times to c port (Some from) h = omega (arith, none_if (same_target (Port c port) to) h)

arc_once : (to : Target) (c port : ℕ) (o : Option ℕ) → times_there to (arc_to c port o) ≤ 1
arc_once to c port None = omega arith
arc_once to c port (Some from) = let k = one_at_most (same_target (Port c port) to) in omega (arith, k)

-- to a port that comes before these none leads
arguments_before : (d p : ℕ) (child : ℕ → Option ℕ) (c port : ℕ) (arguments : List Held) → p < port → times_there (Port d p) (arcs_to child c port arguments) ≡ 0
arguments_before d p child c port [] less = refl
arguments_before d p child c port (Words words ∷ others) less = arguments_before d p child c (port + 1) others (omega (arith, less))
arguments_before d p child c port (Pending call ∷ others) less = let k = arguments_before d p child c (port + 1) others (omega (arith, less)) in
    omega (
      arith,
      times_append (Port d p) (arc_to c port (child call)) (arcs_to child c (port + 1) others),
      arc_times (Port d p) c port (child call) (λ h. absurd (omega (arith, less, eqb-true port p (both_true (nat_eq c d) (nat_eq port p) h).1))),
      k,
    )

arguments_once : (d p : ℕ) (child : ℕ → Option ℕ) (c port : ℕ) (arguments : List Held) → times_there (Port d p) (arcs_to child c port arguments) ≤ 1
arguments_once d p child c port [] = omega arith
arguments_once d p child c port (Words words ∷ others) = arguments_once d p child c (port + 1) others
arguments_once d p child c port (Pending call ∷ others) = at (arguments_once d p child c (port + 1) others) where
  at : times_there (Port d p) (arcs_to child c (port + 1) others) ≤ 1 → times_there (Port d p) (arc_to c port (child call) ++ arcs_to child c (port + 1) others) ≤ 1
  at again = by_bool (same_target (Port c port) (Port d p))
      (λ t. let same = eqb-true port p (both_true (nat_eq c d) (nat_eq port p) t).1 in
      omega (arith, times_append (Port d p) (arc_to c port (child call)) (arcs_to child c (port + 1) others), arguments_before d p child c (port + 1) others (omega (arith, same)), arc_once (Port d p) c port (child call)))
      (λ f. omega (arith, times_append (Port d p) (arc_to c port (child call)) (arcs_to child c (port + 1) others), again, arc_times (Port d p) c port (child call) (λ t. absurd (cc (f, t)))))

-- arguments lead to ports of the new actor alone
arguments_elsewhere : (to : Target) (child : ℕ → Option ℕ) (c port : ℕ) (arguments : List Held) → ((p : ℕ) → same_target (Port c p) to ≡ true → ⊥) → times_there to (arcs_to child c port arguments) ≡ 0
arguments_elsewhere to child c port [] h = refl
arguments_elsewhere to child c port (Words words ∷ others) h = arguments_elsewhere to child c (port + 1) others h
arguments_elsewhere to child c port (Pending call ∷ others) h =
    omega (arith, times_append to (arc_to c port (child call)) (arcs_to child c (port + 1) others), arc_times to c port (child call) (h port), arguments_elsewhere to child c (port + 1) others h)

-- ---- logs

module _ (job : Job) (log : Log) (h : IsLog job log) where
  -- no arc leads to an actor that isn't there
  none_to_new : (c p : ℕ) → (after job log).count ≤ c → times_awaited (after job log) (Port c p) ≡ 0
  none_to_new c p beyond = let w = after job log in let k = holds job log h in
      omega (arith, none_there (Port c p) (Leads w) (refused w beyond) w.waits k.waits, none_there (Port c p) (Leads w) (refused w beyond) w.due k.due) where
        refused : (w : World) → w.count ≤ c → (arc : Arc) → Leads w arc → arc.to ≡ Port c p → ⊥
        refused w far arc leads is = let l = subst (LeadsTo w arc.from) is leads in absurd (omega (arith, far, l.there))

  -- nor to a result that is open
  none_to_open : (a : ℕ) → fate_at (after job log) a ≡ Open → times_awaited (after job log) (Result a) ≡ 0
  none_to_open a opened = let w = after job log in let k = pass job log h in
      omega (arith, none_there (Result a) (PassesAlong w) (refused w opened) w.waits k.waits, none_there (Result a) (PassesAlong w) (refused w opened) w.due k.due) where
        settled : (w : World) (from : ℕ) → fate_at w a ≡ Open → Passes w a from → ⊥
        settled w from is (inl f) = cc (is, f)
        settled w from is (inr k) = cc (is, k.1)

        refused : (w : World) → fate_at w a ≡ Open → (arc : Arc) → PassesAlong w arc → arc.to ≡ Result a → ⊥
        refused w is arc along to = let on = subst (PassesTo w arc.from) to along in settled w arc.from is on.passes

  none_added : (to : Target) (e : Event) → Enabled job (after job log) e → (added to (after job log) e ≡ 0) ⊎ ((added to (after job log) e ≤ 1) × (times_awaited (after job log) to ≡ 0))
  none_added to (Fire a) g = inl refl
  none_added (Port d p) (Send a turns callee member object arguments) g = by_bool (nat_eq callee d)
      (λ t. inr (arguments_once d p ((after job log).actors a).child callee 0 arguments, none_to_new d p (omega (arith, g.next, eqb-true callee d t))))
      (λ f. inl (arguments_elsewhere (Port d p) ((after job log).actors a).child callee 0 arguments (λ q s. absurd (cc (f, (both_true (nat_eq callee d) (nat_eq q p) s).0)))))
  none_added (Result b) (Send a turns callee member object arguments) g = inl (arguments_elsewhere (Result b) ((after job log).actors a).child callee 0 arguments (λ q s. absurd (cc s)))
  none_added to (Create a turns class object) g = inl refl
  none_added to (Learn a turns call) g = inl refl
  none_added to (Park a turns call) g = inl refl
  none_added to (Resume a) g = inl refl
  none_added to (Reply a turns value) g = by_bool (same_target (Result a) to)
      (λ t. inr (one_at_most (same_target (Result a) to), subst (λ s. times_awaited (after job log) s ≡ 0) (target_is (Result a) to t) (none_to_open a (gives_open job log a turns value h g))))
      (λ f. inl (ap one_if f))
  none_added to (End a turns ending state) g = inl refl
  none_added to (Beat a) g = inl refl
  none_added to (Match place) g = inl refl
  none_added to (Arrive a) g = inl refl
  none_added to (Accept object a number) g = inl refl
  none_added to (Quit why) g = inl refl

pub once : (job : Job) (log : Log) → IsLog job log → (to : Target) → times_awaited (after job log) to ≤ 1
once job [] h to = omega arith
once job (e ∷ log) h to = at (none_added job log h.1 to e h.0.1) (once job log h.1 to) where
  at : (added to (after job log) e ≡ 0) ⊎ ((added to (after job log) e ≤ 1) × (times_awaited (after job log) to ≡ 0)) → times_awaited (after job log) to ≤ 1 → times_awaited (step job (after job log) e) to ≤ 1
  at (inl none) before = let k = step_times to job (after job log) e in omega (arith, k, none, before)
  at (inr (few, none)) before = let k = step_times to job (after job log) e in omega (arith, k, few, none)
