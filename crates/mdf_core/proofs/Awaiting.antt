-- Missing arguments and results that are passed on are awaited, along a log.
use Rattle.std.proofs.Common.{◌≡◌, ◌+◌, ◌<◌, ◌≤◌, ◌⊎◌, ℕ, zero, suc, Bool, true, false, not, cond, List, [], ◌∷◌, ◌++◌, map, Option, Some, None, ℤ, refl, sym, ap, ◌∙◌, subst, filter, slice_get, slice_set, remove, inl, inr, arith, option_map, nat_lt, ltb-true, ltb-false}
use Rattle.std.proofs.lemmas.Option.{slice_get-map}
use Rattle.mpl_value.specs.CallAnswers.{leftmost_trap}
use Rattle.mpl_value.specs.declared.body.BodyResult.{BodyResult}
use Rattle.mpl_value.specs.declared.body.BodyResult.TheVariants as result
use Rattle.mpl_value.specs.declared.known.Known.{Known}
use Rattle.mpl_value.specs.declared.known.Known.TheVariants.{Value, Trapped}
use Rattle.mpl_value.specs.declared.known.Trap.{Trap}
use Rattle.mdf_code.specs.Alone.{Held, Words, Pending}
use Rattle.mdf_code.specs.Frames.{Calls}
use Rattle.mdf_code.specs.Told.{Gave, IsMade, NamesMade, Stands, calls_made}
use Rattle.mdf_code.proofs.ToldFrames.{names_made}
use Rattle.mdf_match.specs.Ports.{missing_in}
use Rattle.mdf_core.specs.Actors.{Actor, Arc, Fate, Open, Is, Forwarded, Target, Port, Result, arguments_of, is_known, is_post, known_of}
use Rattle.mdf_core.specs.Awaited.{AllAwaited, IsAwaited, LeadsThere}
use Rattle.mdf_core.specs.Calls.{arc_to, arcs_to, awaits, becomes, complete, completed, counts_ports, leads_from, new_actor, poisoned, port_of, ready, with_arcs}
use Rattle.mdf_core.specs.DueArcs.{ArcsAreDue}
use Rattle.mdf_core.specs.Enabled.{Enabled, IsLog}
use Rattle.mdf_core.specs.Events.{Ending, Event, Fire, Send, Create, Learn, Park, Resume, Reply, End, Beat, Match, Arrive, Accept, Quit}
use Rattle.mdf_core.specs.Steps.{Log, accepts_on, after, becomes_forwarded, becomes_result, brings, brings_known, ends, fills_port, finishes, forwards, frees, frees_object, gives, matches, result_at_end, sends, step, tells, unless_given}
use Rattle.mdf_core.specs.Trees.{IsTree}
use Rattle.mdf_core.specs.Worlds.{Job, Object, World, acts, change, fate_at, known_at, spends}
use Rattle.mdf_core.proofs.ArcLists.{every_at}
use Rattle.mdf_core.proofs.Fates.{fated}
use Rattle.mdf_core.proofs.Changes.{counts_counted}
use Rattle.mdf_core.proofs.EachStep.{changes}
use Rattle.mdf_core.proofs.FilledPorts.{get_here, get_there, new_ports}
use Rattle.mdf_core.proofs.Lists.{by_bool, put_here, same_or}
use Rattle.mdf_core.proofs.Passing.{pass}
use Rattle.mdf_core.proofs.Rooted.{with_call}
use Rattle.mdf_core.proofs.Standing.{stand}
use Rattle.mdf_core.proofs.Timely.{arcs_are_due}
use Rattle.mdf_core.proofs.Transitions.{sends_sent}
use Rattle.mdf_core.proofs.TreeOfActors.{by_event, count_stays, tree}
use Rattle.mdf_core.proofs.Turning.{Turned, Stays, Fires, Sends, Makes, Learns, Parks, Resumes, Gives, Ends, EndsKnown, Pauses, Fills, Follows, Accepts, New, awaited, counted_now, settled, turned, with_port}

-- ---- lists

module _ (to : Target) where
  pub there_left : (xs ys : List Arc) → LeadsThere to xs → LeadsThere to (xs ++ ys)
  there_left [] ys h = absurd h
  there_left (x ∷ xs) ys (inl is) = inl is
  there_left (x ∷ xs) ys (inr h) = inr (there_left xs ys h)

  pub there_right : (xs ys : List Arc) → LeadsThere to ys → LeadsThere to (xs ++ ys)
  there_right [] ys h = h
  there_right (x ∷ xs) ys h = inr (there_right xs ys h)

  found_split : (test : Arc → Bool) (x : Arc) (xs : List Arc) (b : Bool) → x.to ≡ to → LeadsThere to (cond b (x ∷ filter test xs) (filter test xs)) ⊎ LeadsThere to (cond (not b) (x ∷ filter (λ y. not (test y)) xs) (filter (λ y. not (test y)) xs))
  found_split test x xs true is = inl (inl is)
  found_split test x xs false is = inr (inl is)

  further_split : (test : Arc → Bool) (x : Arc) (xs : List Arc) (b : Bool) → LeadsThere to (filter test xs) ⊎ LeadsThere to (filter (λ y. not (test y)) xs) →
      LeadsThere to (cond b (x ∷ filter test xs) (filter test xs)) ⊎ LeadsThere to (cond (not b) (x ∷ filter (λ y. not (test y)) xs) (filter (λ y. not (test y)) xs))
  further_split test x xs true (inl k) = inl (inr k)
  further_split test x xs true (inr k) = inr k
  further_split test x xs false (inl k) = inl k
  further_split test x xs false (inr k) = inr (inr k)

  there_split : (test : Arc → Bool) (xs : List Arc) → LeadsThere to xs → LeadsThere to (filter test xs) ⊎ LeadsThere to (filter (λ x. not (test x)) xs)
  there_split test [] h = absurd h
  there_split test (x ∷ xs) (inl is) = found_split test x xs (test x) is
  there_split test (x ∷ xs) (inr k) = further_split test x xs (test x) (there_split test xs k)

  there_remove : (xs : List Arc) (place : ℕ) (arc : Arc) → slice_get xs place ≡ Some arc → LeadsThere to xs → (arc.to ≡ to) ⊎ LeadsThere to (remove xs place)
  there_remove [] place arc is h = absurd h
  there_remove (x ∷ xs) zero arc is (inl found) = inl (ap (λ (a : Arc). a.to) (same is) ∙ found) where
    same : Some x ≡ Some arc → arc ≡ x
    same e = cc e
  there_remove (x ∷ xs) zero arc is (inr h) = inr h
  there_remove (x ∷ xs) (suc place) arc is (inl found) = inr (inl found)
  there_remove (x ∷ xs) (suc place) arc is (inr h) = at (there_remove xs place arc is h) where
    at : (arc.to ≡ to) ⊎ LeadsThere to (remove xs place) → (arc.to ≡ to) ⊎ LeadsThere to (x ∷ remove xs place)
    at (inl found) = inl found
    at (inr k) = inr (inr k)

  -- ---- the parts of a step

  abbrev A : World → Type 0
  A w = IsAwaited w to

  becomes_awaited : (c : ℕ) (known : Known) (w : World) → A w → A (becomes c known w)
  becomes_awaited c known w (inr h) = inr (there_left w.due (filter (leads_from c) w.waits) h)
  becomes_awaited c known w (inl h) = at (there_split (leads_from c) w.waits h) where
    at : LeadsThere to (filter (leads_from c) w.waits) ⊎ LeadsThere to (filter (λ x. not (leads_from c x)) w.waits) → A (becomes c known w)
    at (inl k) = inr (there_right w.due (filter (leads_from c) w.waits) k)
    at (inr k) = inl k

  arcs_awaited : (arcs : List Arc) (w : World) → A w → A (with_arcs arcs w)
  arcs_awaited arcs w (inl h) = inl (there_left w.waits (filter (λ arc. not (is_known (fate_at w arc.from))) arcs) h)
  arcs_awaited arcs w (inr h) = inr (there_left w.due (filter (λ arc. is_known (fate_at w arc.from)) arcs) h)

  new_awaited : (arcs : List Arc) (w : World) → LeadsThere to arcs → A (with_arcs arcs w)
  new_awaited arcs w h = at (there_split (λ arc. is_known (fate_at w arc.from)) arcs h) where
    at : LeadsThere to (filter (λ arc. is_known (fate_at w arc.from)) arcs) ⊎ LeadsThere to (filter (λ arc. not (is_known (fate_at w arc.from))) arcs) → A (with_arcs arcs w)
    at (inl k) = inr (there_right w.due (filter (λ arc. is_known (fate_at w arc.from)) arcs) k)
    at (inr k) = inl (there_right w.waits (filter (λ arc. not (is_known (fate_at w arc.from))) arcs) k)

  forwards_awaited : (a : ℕ) (o : Option ℕ) (w : World) → A w → A (forwards a o w)
  forwards_awaited a None w h = h
  forwards_awaited a (Some child) w h = arcs_awaited (record { from = child; to = Result a } ∷ []) (change a (λ x. record x { fate = Forwarded child }) w) h

  gives_awaited : (a : ℕ) (value : Held) (w : World) → A w → A (gives a value w)
  gives_awaited a (Words words) w h = becomes_awaited a (Value words) w h
  gives_awaited a (Pending call) w h = forwards_awaited a ((w.actors a).child call) w h

  result_awaited : (a : ℕ) (r : BodyResult) (w : World) → A w → A (becomes_result a r w)
  result_awaited a result.Open w h = h
  result_awaited a (result.Known known) w h = becomes_awaited a known w h
  result_awaited a result.Unknown w h = h

  unless_awaited : (f : Fate) (w settled : World) → A settled → A w → A (unless_given f settled w)
  unless_awaited Open w settled h k = h
  unless_awaited (Is known) w settled h k = k
  unless_awaited (Forwarded child) w settled h k = k

  frees_object_awaited : (o : ℤ) (state : List ℤ) (object : Option Object) (w : World) → A w → A (frees_object o state object w)
  frees_object_awaited o state None w h = h
  frees_object_awaited o state (Some object) w h = h

  frees_awaited : (x : Actor) (state : List ℤ) (w : World) → A w → A (frees x state w)
  frees_awaited x state w h = at (is_post x.call) where
    at : (b : Bool) → A (cond b (frees_object x.call.object state (w.objects x.call.object) w) w)
    at true = frees_object_awaited x.call.object state (w.objects x.call.object) w h
    at false = h

  finishes_awaited : (job : Job) (a t : ℕ) (ending : Ending) (state : List ℤ) (w : World) → A w → A (finishes job a t ending state w)
  finishes_awaited job a t ending state w h =
      let v = acts a t (ends t) w in let freed = frees (w.actors a) state v in let r = result_at_end job (w.actors a) ending in let k = frees_awaited (w.actors a) state v h in
      unless_awaited (w.actors a).fate freed (becomes_result a r freed) (result_awaited a r freed k) k

  completed_awaited : (c : ℕ) (x : Actor) (t : Option Trap) (w : World) → A w → A (completed c x t w)
  completed_awaited c x (Some trap) w h = becomes_awaited c (Trapped trap) (change c poisoned w) h
  completed_awaited c x None w h = h

  awaits_awaited : (c : ℕ) (x : Actor) (n : ℕ) (w : World) → A w → A (awaits c x n w)
  awaits_awaited c x zero w h = completed_awaited c x (leftmost_trap (arguments_of x.ports)) w h
  awaits_awaited c x (suc n) w h = h

  counts_awaited : (c : ℕ) (w : World) → A w → A (counts_ports c w)
  counts_awaited c w h = awaits_awaited c (w.actors c) (missing_in (w.actors c).ports) w h

  fills_awaited : (c port : ℕ) (known : Known) (o : Option (Option Known)) (w : World) → A w → A (fills_port c port known o w)
  fills_awaited c port known None w h = h
  fills_awaited c port known (Some (Some other)) w h = h
  fills_awaited c port known (Some None) w h = counts_awaited c (change c (with_port port known) w) h

  forwarded_awaited : (c : ℕ) (known : Known) (f : Fate) (w : World) → A w → A (becomes_forwarded c known f w)
  forwarded_awaited c known (Forwarded child) w h = becomes_awaited c known w h
  forwarded_awaited c known Open w h = h
  forwarded_awaited c known (Is other) w h = h

  brings_awaited : (known : Known) (target : Target) (w : World) → A w → A (brings known target w)
  brings_awaited known (Port c port) w h = fills_awaited c port known (slice_get (w.actors c).ports port) w h
  brings_awaited known (Result c) w h = forwarded_awaited c known (fate_at w c) w h

  known_awaited : (o : Option Known) (target : Target) (w : World) → A w → A (brings_known o target w)
  known_awaited None target w h = h
  known_awaited (Some known) target w h = brings_awaited known target w h

  -- a token is taken, and others stay
  matches_awaited : (place : ℕ) (arc : Arc) (w : World) → slice_get w.due place ≡ Some arc → A w → (arc.to ≡ to) ⊎ A (matches place (Some arc) w)
  matches_awaited place arc w is h = at (rest h) where
    rest : A w → (arc.to ≡ to) ⊎ A (record w { due = remove w.due place })
    rest (inl k) = inr (inl k)
    rest (inr k) = due (there_remove w.due place arc is k) where
      due : (arc.to ≡ to) ⊎ LeadsThere to (remove w.due place) → (arc.to ≡ to) ⊎ A (record w { due = remove w.due place })
      due (inl found) = inl found
      due (inr k) = inr (inr k)

    at : (arc.to ≡ to) ⊎ A (record w { due = remove w.due place }) → (arc.to ≡ to) ⊎ A (matches place (Some arc) w)
    at (inl found) = inl found
    at (inr k) = inr (known_awaited (known_at w (Some arc.from)) arc.to (record w { due = remove w.due place }) k)

  accepts_awaited : (o : ℤ) (a number : ℕ) (object : Option Object) (w : World) → A w → A (accepts_on o a number object w)
  accepts_awaited o a number None w h = h
  accepts_awaited o a number (Some object) w h = h

  -- ---- events

  -- what an event takes
  abbrev Takes : World → Event → Type 0
  Takes w e = (place : ℕ) × (arc : Arc) × (e ≡ Match place) × (slice_get w.due place ≡ Some arc) × (arc.to ≡ to)

  pub step_awaited : (job : Job) (w : World) (e : Event) → Enabled job w e → A w → Takes w e ⊎ A (step job w e)
  step_awaited job w (Fire a) h k = inr k
  step_awaited job w (Send a turns callee member object arguments) h k = let y = with_call job a turns callee member object arguments w in let arcs = arcs_to (w.actors a).child callee 0 arguments in
      inr (counts_awaited callee (with_arcs arcs y) (arcs_awaited arcs y k))
  step_awaited job w (Create a turns class object) h k = inr k
  step_awaited job w (Learn a turns call) h k = inr k
  step_awaited job w (Park a turns call) h k = inr k
  step_awaited job w (Resume a) h k = inr k
  step_awaited job w (Reply a turns value) h k = inr (gives_awaited a value (acts a turns (tells Gave) w) k)
  step_awaited job w (End a turns ending state) h k = inr (finishes_awaited job a turns ending state w k)
  step_awaited job w (Beat a) h k = inr k
  step_awaited job w (Match place) h k = at (matches_awaited place h.0 w h.1 k) where
    at : (h.0.to ≡ to) ⊎ A (matches place (Some h.0) w) → Takes w (Match place) ⊎ A (step job w (Match place))
    at (inl found) = inl (place, h.0, refl, h.1, found)
    at (inr l) = inr (subst (λ o. A (matches place o w)) (sym h.1) l)
  step_awaited job w (Arrive a) h k = inr k
  step_awaited job w (Accept o a number) h k = inr (accepts_awaited o a number (w.objects o) w k)
  step_awaited job w (Quit why) h k = inr k

-- ---- new arcs

-- a result that is forwarded
reply_awaited : (a call child : ℕ) (w : World) → (w.actors a).child call ≡ Some child → IsAwaited (gives a (Pending call) w) (Result a)
reply_awaited a call child w is = at ((w.actors a).child call) is where
  at : (o : Option ℕ) → o ≡ Some child → IsAwaited (forwards a o w) (Result a)
  at None n = absurd (cc n)
  at (Some d) n = new_awaited (Result a) (record { from = d; to = Result a } ∷ []) (change a (λ x. record x { fate = Forwarded d }) w) (inl refl)

-- an argument that is pending
argument_awaited : (child : ℕ → Option ℕ) (c port : ℕ) (arguments : List Held) (place call from : ℕ) → slice_get arguments place ≡ Some (Pending call) → child call ≡ Some from →
    LeadsThere (Port c (port + place)) (arcs_to child c port arguments)
argument_awaited child c port [] place call from is found = absurd (cc is)
argument_awaited child c port (Words words ∷ others) zero call from is found = absurd (cc is)
argument_awaited child c port (Words words ∷ others) (suc place) call from is found = subst (λ n. LeadsThere (Port c n) (arcs_to child c (port + 1) others)) (one_on place) (argument_awaited child c (port + 1) others place call from is found) where
  one_on : (i : ℕ) → port + 1 + i ≡ port + suc i
  one_on i = omega arith
argument_awaited child c port (Pending other ∷ others) zero call from is found = there_left (Port c (port + 0)) (arc_to c port (child other)) (arcs_to child c (port + 1) others) (at (child other) (ap child (same is) ∙ found)) where
  same : Some (Pending other) ≡ Some (Pending call) → other ≡ call
  same e = cc e

  none_on : port ≡ port + 0
  none_on = omega arith

  at : (o : Option ℕ) → o ≡ Some from → LeadsThere (Port c (port + 0)) (arc_to c port o)
  at None n = absurd (cc n)
  at (Some d) n = inl (ap (Port c) none_on)
argument_awaited child c port (Pending other ∷ others) (suc place) call from is found = there_right (Port c (port + suc place)) (arc_to c port (child other)) (arcs_to child c (port + 1) others)
    (subst (λ n. LeadsThere (Port c n) (arcs_to child c (port + 1) others)) (one_on place) (argument_awaited child c (port + 1) others place call from is found)) where
      one_on : (i : ℕ) → port + 1 + i ≡ port + suc i
      one_on i = omega arith

-- ---- a token that came

some_is : (f : Fate) → is_known f ≡ true → (k : Known) × (known_of f ≡ Some k)
some_is Open h = absurd (cc h)
some_is (Is known) h = (known, refl)
some_is (Forwarded child) h = absurd (cc h)

counted_ports : (z : Actor) → (counted_now z).ports ≡ z.ports
counted_ports z = at (missing_in z.ports) where
  by_kind : (b : Bool) → (cond {A = Actor → Actor} b complete ready z).ports ≡ z.ports
  by_kind true = refl
  by_kind false = refl

  by_trap : (t : Option Trap) → (settled z t).ports ≡ z.ports
  by_trap (Some trap) = refl
  by_trap None = by_kind (is_post z.call)

  at : (n : ℕ) → (awaited z n).ports ≡ z.ports
  at zero = by_trap (leftmost_trap (arguments_of z.ports))
  at (suc n) = refl

counted_open : (z : Actor) (child : ℕ) → z.fate ≡ Open → (counted_now z).fate ≡ Forwarded child → ⊥
counted_open z child opened = at (missing_in z.ports) where
  by_kind : (b : Bool) → (cond {A = Actor → Actor} b complete ready z).fate ≡ Forwarded child → ⊥
  by_kind true h = cc (h, opened)
  by_kind false h = cc (h, opened)

  by_trap : (t : Option Trap) → (settled z t).fate ≡ Forwarded child → ⊥
  by_trap (Some trap) h = cc h
  by_trap None h = by_kind (is_post z.call) h

  at : (n : ℕ) → (awaited z n).fate ≡ Forwarded child → ⊥
  at zero h = by_trap (leftmost_trap (arguments_of z.ports)) h
  at (suc n) h = cc (h, opened)

filled_now : (c port : ℕ) (known : Known) (o : Option (Option Known)) (u : World) → slice_get (u.actors c).ports port ≡ o → slice_get ((fills_port c port known o u).actors c).ports port ≡ Some None → ⊥
filled_now c port known None u is h = cc (is, h)
filled_now c port known (Some (Some other)) u is h = absurd (cc (is, h))
filled_now c port known (Some None) u is h = let v = change c (with_port port known) u in
    cc (
      h,
      ap (λ p. slice_get p port) ((counts_counted c v).only.ports ∙ ap (λ (x : Actor). x.ports) (put_here c (with_port port known (u.actors c)) u.actors)),
      get_here (u.actors c).ports port (Some known) None is,
    )

followed_now : (c : ℕ) (known : Known) (f : Fate) (u : World) (child : ℕ) → fate_at u c ≡ f → fate_at (becomes_forwarded c known f u) c ≡ Forwarded child → ⊥
followed_now c known (Forwarded d) u child is h = cc (h, ap (λ (x : Actor). x.fate) (put_here c (record (u.actors c) { fate = Is known }) u.actors))
followed_now c known Open u child is h = cc (is, h)
followed_now c known (Is other) u child is h = cc (is, h)

-- where a token was taken nothing is missing
module _ (w : World) (place : ℕ) (arc : Arc) (due : slice_get w.due place ≡ Some arc) (knows : is_known (fate_at w arc.from) ≡ true) where
  abbrev u : World
  u = record w { due = remove w.due place }

  brought : (P : World → Type 0) → ((k : Known) → P (brings k arc.to (record w { due = remove w.due place }))) → P (matches place (slice_get w.due place) w)
  brought P each = let k = some_is (fate_at w arc.from) knows in
      subst (λ o. P (matches place o w)) (sym due) (subst (λ o. P (brings_known o arc.to (record w { due = remove w.due place }))) (sym k.1) (each k.0))

  pub taken_port : (c port : ℕ) → arc.to ≡ Port c port → slice_get ((matches place (slice_get w.due place) w).actors c).ports port ≡ Some None → ⊥
  taken_port c port to = brought (λ v. slice_get (v.actors c).ports port ≡ Some None → ⊥)
      (λ k. subst (λ t. slice_get ((brings k t (record w { due = remove w.due place })).actors c).ports port ≡ Some None → ⊥) (sym to) (filled_now c port k (slice_get (w.actors c).ports port) (record w { due = remove w.due place }) refl))

  pub taken_result : (a child : ℕ) → arc.to ≡ Result a → fate_at (matches place (slice_get w.due place) w) a ≡ Forwarded child → ⊥
  taken_result a child to = brought (λ v. fate_at v a ≡ Forwarded child → ⊥)
      (λ k. subst (λ t. fate_at (brings k t (record w { due = remove w.due place })) a ≡ Forwarded child → ⊥) (sym to) (followed_now a k (fate_at w a) (record w { due = remove w.due place }) child refl))

-- ---- each change

empty_before : (job : Job) (w : World) (e : Event) (k place : ℕ) (x y : Actor) → Turned job w e k x y → slice_get y.ports place ≡ Some None → (slice_get x.ports place ≡ Some None) ⊎ (k ≡ w.count)
empty_before job w e k place x y Stays h = inl h
empty_before job w e k place x y (Fires named is) h = inl h
empty_before job w e k place x y (Sends turns callee member object arguments stood g halt) h = inl h
empty_before job w e k place x y (Makes turns class object stood g halt) h = inl h
empty_before job w e k place x y (Learns turns call known stood g halt) h = inl h
empty_before job w e k place x y (Parks turns call child stood g halt is) h = inl h
empty_before job w e k place x y (Resumes child is) h = inl h
empty_before job w e k place x y (Gives turns value fate stood named g halt gives) h = inl h
empty_before job w e k place x y (Ends turns ending stood g is opened) h = inl h
empty_before job w e k place x y (EndsKnown turns ending known stood g is opened r) h = inl h
empty_before job w e k place x y (Pauses stood g halt) h = inl h
empty_before job w e k place x y (Fills port known empty fresh) h = inl (at (same_or place port)) where
  now : slice_get (slice_set x.ports port (Some known)) place ≡ Some None
  now = sym (ap (λ p. slice_get p place) (counted_ports (with_port port known x))) ∙ h

  at : (place ≡ port) ⊎ (place ≡ port → ⊥) → slice_get x.ports place ≡ Some None
  at (inl same) = ap (slice_get x.ports) same ∙ empty
  at (inr differ) = sym (get_there x.ports port place (Some known) differ) ∙ now
empty_before job w e k place x y (Follows child known arc due at to knows is) h = inl h
empty_before job w e k place x y (Accepts number state is) h = inl h
empty_before job w e k place x y (New a member object arguments is beyond) h = inr is

-- it was forwarded before, or is given so
abbrev Forwards : World → Event → ℕ → ℕ → Type 0
Forwards w e k child = (turns : ℕ) × (call : ℕ) × (e ≡ Reply k turns (Pending call)) × ((w.actors k).child call ≡ Some child)

forwarded_before : (job : Job) (w : World) (e : Event) (k child : ℕ) (y : Actor) → Turned job w e k (w.actors k) y → y.fate ≡ Forwarded child → (fate_at w k ≡ Forwarded child) ⊎ Forwards w e k child
forwarded_before job w e k child y Stays h = inl h
forwarded_before job w e k child y (Fires named is) h = inl h
forwarded_before job w e k child y (Sends turns callee member object arguments stood g halt) h = inl h
forwarded_before job w e k child y (Makes turns class object stood g halt) h = inl h
forwarded_before job w e k child y (Learns turns call known stood g halt) h = inl h
forwarded_before job w e k child y (Parks turns call other stood g halt is) h = inl h
forwarded_before job w e k child y (Resumes other is) h = inl h
forwarded_before job w e k child y (Gives turns (Words words) fate stood named g halt gives) h = absurd (cc (gives, h))
forwarded_before job w e k child y (Gives turns (Pending call) fate stood named g halt gives) h = inr (turns, call, named, gives.1 ∙ ap Some (same (sym gives.2 ∙ h))) where
  same : Forwarded gives.0 ≡ Forwarded child → gives.0 ≡ child
  same s = cc s
forwarded_before job w e k child y (Ends turns ending stood g is opened) h = inl h
forwarded_before job w e k child y (EndsKnown turns ending known stood g is opened r) h = absurd (cc h)
forwarded_before job w e k child y (Pauses stood g halt) h = inl h
forwarded_before job w e k child y (Fills port known empty fresh) h = absurd (counted_open (with_port port known (w.actors k)) child fresh.fate h)
forwarded_before job w e k child y (Follows other known arc due at to knows is) h = absurd (cc h)
forwarded_before job w e k child y (Accepts number state is) h = inl h
forwarded_before job w e k child y (New a member object arguments is beyond) h = absurd (counted_open (new_actor job a (w.actors a) member object arguments) child refl h)

-- ---- a new actor

pending_at : (arguments : List Held) (place : ℕ) → slice_get (map port_of arguments) place ≡ Some None → (call : ℕ) × (slice_get arguments place ≡ Some (Pending call))
pending_at arguments place h = at (slice_get arguments place) refl (sym (slice_get-map port_of arguments place) ∙ h) where
  at : (o : Option Held) → slice_get arguments place ≡ o → option_map port_of o ≡ Some None → (call : ℕ) × (slice_get arguments place ≡ Some (Pending call))
  at None is e = absurd (cc e)
  at (Some (Words words)) is e = absurd (cc e)
  at (Some (Pending call)) is e = (call, is)

new_port_awaited : (job : Job) (w : World) (a turns member : ℕ) (object : ℤ) (arguments : List Held) (place : ℕ) → Enabled job w (Send a turns w.count member object arguments) → IsTree w →
    slice_get ((sends job a turns w.count member object arguments w).actors w.count).ports place ≡ Some None → IsAwaited (sends job a turns w.count member object arguments w) (Port w.count place)
new_port_awaited job w a turns member object arguments place h t empty =
    let y = with_call job a turns w.count member object arguments w in let arcs = arcs_to (w.actors a).child w.count 0 arguments in
    let p = pending_at arguments place (sym (ap (λ ports. slice_get ports place) (new_ports job w a turns member object arguments)) ∙ empty) in
    let s = h.stops.stood in
    let names : NamesMade (calls_made (w.actors a).told) (Stands (Calls member object arguments)) = subst (NamesMade (calls_made (w.actors a).told)) h.stops.is (names_made job.image (w.actors a).start (w.actors a).told s h.stops.stops.halts) in
    let made : IsMade (calls_made (w.actors a).told) (Pending p.0) = every_at (IsMade (calls_made (w.actors a).told)) arguments place (Pending p.0) names p.1 in
    let c = t.calls a p.0 h.stops.stops.there made.0 made.1 in
    counts_awaited (Port w.count place) w.count (with_arcs arcs y) (new_awaited (Port w.count place) arcs y
    (subst (λ n. LeadsThere (Port w.count n) arcs) (zero_on place) (argument_awaited (w.actors a).child w.count 0 arguments place p.0 c.0 p.1 c.1))) where
      zero_on : (i : ℕ) → 0 + i ≡ i
      zero_on i = omega arith

-- ---- logs

record Alive (w : World) : Type 0 where
  ports : (c place : ℕ) → c < w.count → slice_get (w.actors c).ports place ≡ Some None → IsAwaited w (Port c place)
  results : (a child : ℕ) → fate_at w a ≡ Forwarded child → IsAwaited w (Result a)

module _ (job : Job) (w : World) (e : Event) (h : Enabled job w e) (t : IsTree w) (turn : (k : ℕ) → Turned job w e k (w.actors k) ((step job w e).actors k)) (d : ArcsAreDue w) (l : Alive w) where
  taken_empty : (c port : ℕ) → (place : ℕ) × (arc : Arc) × (e ≡ Match place) × (slice_get w.due place ≡ Some arc) × (arc.to ≡ Port c port) → slice_get ((step job w e).actors c).ports port ≡ Some None → ⊥
  taken_empty c port (place, arc, is, due, to) = subst (λ f. slice_get ((step job w f).actors c).ports port ≡ Some None → ⊥) (sym is)
      (taken_port w place arc due (every_at (λ (b : Arc). is_known (fate_at w b.from) ≡ true) w.due place arc d.due due) c port to)

  taken_open : (a child : ℕ) → (place : ℕ) × (arc : Arc) × (e ≡ Match place) × (slice_get w.due place ≡ Some arc) × (arc.to ≡ Result a) → fate_at (step job w e) a ≡ Forwarded child → ⊥
  taken_open a child (place, arc, is, due, to) = subst (λ f. fate_at (step job w f) a ≡ Forwarded child → ⊥) (sym is)
      (taken_result w place arc due (every_at (λ (b : Arc). is_known (fate_at w b.from) ≡ true) w.due place arc d.due due) a child to)

  old_port : (c place : ℕ) → c < w.count → slice_get ((step job w e).actors c).ports place ≡ Some None → IsAwaited (step job w e) (Port c place)
  old_port c place there empty = at (empty_before job w e c place (w.actors c) ((step job w e).actors c) (turn c) empty) where
    taken_or : ((place_ : ℕ) × (arc : Arc) × (e ≡ Match place_) × (slice_get w.due place_ ≡ Some arc) × (arc.to ≡ Port c place)) ⊎ IsAwaited (step job w e) (Port c place) → IsAwaited (step job w e) (Port c place)
    taken_or (inl taken) = absurd (taken_empty c place taken empty)
    taken_or (inr k) = k

    at : (slice_get (w.actors c).ports place ≡ Some None) ⊎ (c ≡ w.count) → IsAwaited (step job w e) (Port c place)
    at (inl before) = taken_or (step_awaited (Port c place) job w e h (l.ports c place there before))
    at (inr next) = absurd (omega (arith, there, next))

  result_alive : (a child : ℕ) → fate_at (step job w e) a ≡ Forwarded child → IsAwaited (step job w e) (Result a)
  result_alive a child is = at (forwarded_before job w e a child ((step job w e).actors a) (turn a) is) where
    taken_or : ((place : ℕ) × (arc : Arc) × (e ≡ Match place) × (slice_get w.due place ≡ Some arc) × (arc.to ≡ Result a)) ⊎ IsAwaited (step job w e) (Result a) → IsAwaited (step job w e) (Result a)
    taken_or (inl taken) = absurd (taken_open a child taken is)
    taken_or (inr k) = k

    at : (fate_at w a ≡ Forwarded child) ⊎ Forwards w e a child → IsAwaited (step job w e) (Result a)
    at (inl before) = taken_or (step_awaited (Result a) job w e h (l.results a child before))
    at (inr (turns, call, named, found)) = subst (λ f. IsAwaited (step job w f) (Result a)) (sym named)
        (reply_awaited a call child (acts a turns (tells Gave) w) (ap (λ (x : Actor). x.child call) (put_here a (spends turns (tells Gave (w.actors a))) w.actors) ∙ found))

  port_alive : (c place : ℕ) → c < (step job w e).count → slice_get ((step job w e).actors c).ports place ≡ Some None → IsAwaited (step job w e) (Port c place)
  port_alive c place there empty = by_bool (nat_lt c w.count) (λ b. old_port c place (ltb-true c w.count b) empty) (λ b. by_event e
      (λ a turns callee member object arguments is. new a turns callee member object arguments is (ltb-false c w.count b))
      (λ other. let same = count_stays job w (step job w e) e (changes job w e h) other in let beyond = ltb-false c w.count b in absurd (omega (arith, there, same, beyond)))) where
        new : (a turns callee member : ℕ) (object : ℤ) (arguments : List Held) → e ≡ Send a turns callee member object arguments → w.count ≤ c → IsAwaited (step job w e) (Port c place)
        new a turns callee member object arguments is beyond =
            let next : callee ≡ w.count = (subst (Enabled job w) is h).next in let same : e ≡ Send a turns w.count member object arguments = is ∙ ap (λ d. Send a turns d member object arguments) next in
            let g : Enabled job w (Send a turns w.count member object arguments) = subst (Enabled job w) same h in
            let here : a < w.count = g.stops.stops.there in
            let count = (sends_sent job a turns w.count member object arguments w (λ s. absurd (omega (arith, s, here)))).count in
            let below : c < (sends job a turns w.count member object arguments w).count = subst (λ f. c < (step job w f).count) same there in
            let last : c ≡ w.count = omega (arith, below, count, beyond) in
            subst (λ f. IsAwaited (step job w f) (Port c place)) (sym same) (subst (λ n. IsAwaited (sends job a turns w.count member object arguments w) (Port n place)) (sym last)
            (new_port_awaited job w a turns member object arguments place g t
            (subst (λ n. slice_get ((sends job a turns w.count member object arguments w).actors n).ports place ≡ Some None) last (subst (λ f. slice_get ((step job w f).actors c).ports place ≡ Some None) same empty))))

alive : (job : Job) (log : Log) → IsLog job log → Alive (after job log)
alive job [] h = record { ports = λ c place there e. absurd (cc e); results = λ a child e. absurd (cc e) }
alive job (e ∷ log) h = let w = after job log in let t = tree job log h.1 in let turn = turned job w e h.0.1 (stand job log h.1) (fated job log h.1) t in let d = arcs_are_due job log h.1 in let l = alive job log h.1 in
    record { ports = port_alive job w e h.0.1 t turn d l; results = result_alive job w e h.0.1 t turn d l }

pub all_awaited : (job : Job) (log : Log) → IsLog job log → AllAwaited (after job log)
all_awaited job log h = let l = alive job log h in let p = pass job log h in record { ports = l.ports; results = l.results; waits = p.waits; due = p.due }
