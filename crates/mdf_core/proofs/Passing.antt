-- Results that are passed on, along a log.
use Rattle.std.proofs.Common.{◌≡◌, ◌+◌, ◌<◌, ◌≤◌, ◌⊎◌, ℕ, false, List, [], ◌∷◌, Option, Some, None, refl, sym, ap, ◌∙◌, subst, slice_get, inl, inr, arith}
use Rattle.std.specs.List.{AllByRecursion}
use Rattle.mpl_value.specs.declared.known.Known.{Known}
use Rattle.mdf_actor.specs.Statuses.{is_over}
use Rattle.mdf_code.specs.Alone.{Held, Words, Pending}
use Rattle.mdf_code.specs.Told.{Gave, has_given}
use Rattle.mdf_code.proofs.ToldFrames.{nothing_is_given_twice}
use Rattle.mdf_core.specs.Actors.{Actor, Arc, Fate, Open, Is, Forwarded, Target, Port, Result, known_of}
use Rattle.mdf_core.specs.Awaited.{PassesAlong, PassesOn, PassesTo}
use Rattle.mdf_core.specs.Calls.{arc_to, arcs_to, with_arcs}
use Rattle.mdf_core.specs.Causes.{Passes}
use Rattle.mdf_core.specs.Enabled.{Enabled, IsLog}
use Rattle.mdf_core.specs.Events.{Event, Fire, Send, Create, Learn, Park, Resume, Reply, End, Beat, Match, Arrive, Accept, Quit}
use Rattle.mdf_core.specs.Steps.{Log, after, forwards, gives, runs, step, tells}
use Rattle.mdf_core.specs.Trees.{IsTree}
use Rattle.mdf_core.specs.Worlds.{Job, World, acts, fate_at, known_at, spends}
use Rattle.mdf_core.proofs.ArcLists.{Holds, acts_hold, accepts_hold, arcs_hold, counts_hold, every_append, every_at, every_more, finishes_hold, gives_hold, matches_hold, same_hold}
use Rattle.mdf_core.proofs.Fates.{AllFated, count_grows, fated, step_stays}
use Rattle.mdf_core.proofs.Lists.{by_bool, put_here}
use Rattle.mdf_core.proofs.Rooted.{with_call}
use Rattle.mdf_core.proofs.Standing.{Standing, stand}
use Rattle.mdf_core.proofs.TreeOfActors.{tree}
use Rattle.mdf_core.proofs.Turning.{Turned, Stays, Fires, Sends, Makes, Learns, Parks, Resumes, Gives, Ends, EndsKnown, Pauses, Fills, Follows, Accepts, New, turned}

-- ---- arcs to results

abbrev pub PassesAll : World → Type 0
PassesAll w = Holds (PassesAlong w) w

-- ---- a result that is passed on stays so

some_same : {A : Type 0} {x y : A} → Some x ≡ Some y → x ≡ y
some_same e = cc e

is_of : (f : Fate) (known : Known) → known_of f ≡ Some known → f ≡ Is known
is_of Open known h = absurd (cc h)
is_of (Is k) known h = ap Is (some_same h)
is_of (Forwarded child) known h = absurd (cc h)

-- the result of an actor is forwarded, and then known as that of the other
passed_known : (w : World) (a from child : ℕ) → Passes w a from → fate_at w a ≡ Forwarded child → from ≡ child
passed_known w a from child (inl f) is = same (sym f ∙ is) where
  same : Forwarded from ≡ Forwarded child → from ≡ child
  same s = cc s
passed_known w a from child (inr k) is = absurd (cc (k.1, is))

module _ (job : Job) (w : World) (e : Event) (h : Enabled job w e) (s : (k : ℕ) → Standing w k) (f : AllFated w) (p : PassesAll w) where
  forwarded_turned : (a child : ℕ) (y : Actor) → a < w.count → child < w.count → fate_at w a ≡ Forwarded child → Turned job w e a (w.actors a) y →
      (y.fate ≡ Forwarded child) ⊎ ((known : Known) × (y.fate ≡ Is known) × (known_at (step job w e) (Some child) ≡ Some known))
  forwarded_turned a child y there below is Stays = inl is
  forwarded_turned a child y there below is (Fires named ready) = inl is
  forwarded_turned a child y there below is (Sends turns callee member object arguments stood g halt) = inl is
  forwarded_turned a child y there below is (Makes turns class object stood g halt) = inl is
  forwarded_turned a child y there below is (Learns turns call known stood g halt) = inl is
  forwarded_turned a child y there below is (Parks turns call other stood g halt at) = inl is
  forwarded_turned a child y there below is (Resumes other parked) = inl is
  forwarded_turned a child y there below is (Gives turns value fate stood named g halt gives) = absurd (cc (is, (f a).unsettled not_given (ap is_over g.running))) where
    not_given : has_given (w.actors a).told ≡ false
    not_given = by_bool (has_given (w.actors a).told) (λ t. absurd (nothing_is_given_twice job.image (w.actors a).start (w.actors a).told stood value g.halts t halt)) (λ n. n)
  forwarded_turned a child y there below is (Ends turns ending stood g at opened) = inl is
  forwarded_turned a child y there below is (EndsKnown turns ending known stood g at opened r) = absurd (cc (is, opened))
  forwarded_turned a child y there below is (Pauses stood g halt) = inl is
  forwarded_turned a child y there below is (Fills port known empty fresh) = absurd (cc (is, fresh.fate))
  forwarded_turned a child y there below is (Follows other known arc place at to knows was) =
      let on : PassesOn w arc.from a = subst (PassesTo w arc.from) to (every_at (PassesAlong w) w.due place arc p.due at) in
      let same : arc.from ≡ child = passed_known w a arc.from child on.passes is in
      inr (known, refl, (step_stays job w e h s f child below).stays known (ap (λ d. known_at w (Some d)) (sym same) ∙ knows))
  forwarded_turned a child y there below is (Accepts number state waits) = inl is
  forwarded_turned a child y there below is (New b member object arguments next beyond) = absurd (omega (arith, next, there))

  pub passes_turned : IsTree w → (a child : ℕ) → a < w.count → child < w.count → Passes w a child → Passes (step job w e) a child
  passes_turned t a child there below (inl is) = forwarded_turned a child ((step job w e).actors a) there below is (turned job w e h s f t a)
  passes_turned t a child there below (inr k) = inr (
    k.0,
    is_of ((step job w e).actors a).fate k.0 ((step_stays job w e h s f a there).stays k.0 (ap known_of k.1)),
    (step_stays job w e h s f child below).stays k.0 k.2,
  )

pub passes_later : (job : Job) (w : World) (e : Event) → Enabled job w e → ((k : ℕ) → Standing w k) → AllFated w → IsTree w → PassesAll w → (a child : ℕ) → a < w.count → child < w.count → Passes w a child → Passes (step job w e) a child
passes_later job w e h s f t p a child there below is = passes_turned job w e h s f p t a child there below is

-- ---- arcs

port_arcs : (P : Arc → Type 0) → ((from c port : ℕ) → P (record { from = from; to = Port c port })) → (child : ℕ → Option ℕ) (c port : ℕ) (arguments : List Held) → AllByRecursion P (arcs_to child c port arguments)
port_arcs P each child c port [] = tt
port_arcs P each child c port (Words words ∷ others) = port_arcs P each child c (port + 1) others
port_arcs P each child c port (Pending call ∷ others) = every_append P (arc_to c port (child call)) (arcs_to child c (port + 1) others) (first (child call)) (port_arcs P each child c (port + 1) others) where
  first : (o : Option ℕ) → AllByRecursion P (arc_to c port o)
  first None = tt
  first (Some from) = (each from c port, tt)

along_later : (w v : World) → w.count ≤ v.count → ((a child : ℕ) → a < w.count → child < w.count → Passes w a child → Passes v a child) → (from : ℕ) (to : Target) → PassesTo w from to → PassesTo v from to
along_later w v count l from (Port c port) h = tt
along_later w v count l from (Result a) h = record { from_there = omega (arith, h.from_there, count); there = omega (arith, h.there, count); passes = l a from h.there h.from_there h.passes }

old_hold : (w v : World) → w.count ≤ v.count → ((a child : ℕ) → a < w.count → child < w.count → Passes w a child → Passes v a child) → PassesAll w → Holds (PassesAlong v) w
old_hold w v count l h = record {
  waits = every_more (PassesAlong w) (PassesAlong v) (λ arc. along_later w v count l arc.from arc.to) w.waits h.waits;
  due = every_more (PassesAlong w) (PassesAlong v) (λ arc. along_later w v count l arc.from arc.to) w.due h.due;
}

now_forwarded : (a : ℕ) (w : World) (o : Option ℕ) (child : ℕ) → o ≡ Some child → fate_at (forwards a o w) a ≡ Forwarded child
now_forwarded a w None child is = absurd (cc is)
now_forwarded a w (Some c) child is = ap (λ (x : Actor). x.fate) (put_here a (record (w.actors a) { fate = Forwarded c }) w.actors) ∙ ap Forwarded (some_same is)

reply_passes : (w : World) (a turns : ℕ) (value : Held) (call child : ℕ) → value ≡ Pending call → ((acts a turns (tells Gave) w).actors a).child call ≡ Some child →
    fate_at (gives a value (acts a turns (tells Gave) w)) a ≡ Forwarded child
reply_passes w a turns value call child is found = subst (λ v. fate_at (gives a v (acts a turns (tells Gave) w)) a ≡ Forwarded child) (sym is)
    (now_forwarded a (acts a turns (tells Gave) w) (((acts a turns (tells Gave) w).actors a).child call) child found)

step_pass : (job : Job) (w : World) (e : Event) → Enabled job w e → IsTree w → w.count ≤ (step job w e).count → Holds (PassesAlong (step job w e)) w → PassesAll (step job w e)
step_pass job w (Fire a) h t c k = acts_hold (PassesAlong (step job w (Fire a))) a 1 runs w k
step_pass job w (Send a turns callee member object arguments) h t c k = let P = PassesAlong (step job w (Send a turns callee member object arguments)) in
    let y = with_call job a turns callee member object arguments w in let arcs = arcs_to (w.actors a).child callee 0 arguments in
    counts_hold P callee (with_arcs arcs y) (arcs_hold P arcs y (port_arcs P (λ from c port. tt) (w.actors a).child callee 0 arguments) (same_hold P w y refl refl k))
step_pass job w (Create a turns class object) h t c k = same_hold (PassesAlong (step job w (Create a turns class object))) w (step job w (Create a turns class object)) refl refl k
step_pass job w (Learn a turns call) h t c k = same_hold (PassesAlong (step job w (Learn a turns call))) w (step job w (Learn a turns call)) refl refl k
step_pass job w (Park a turns call) h t c k = same_hold (PassesAlong (step job w (Park a turns call))) w (step job w (Park a turns call)) refl refl k
step_pass job w (Resume a) h t c k = same_hold (PassesAlong (step job w (Resume a))) w (step job w (Resume a)) refl refl k
step_pass job w (Reply a turns value) h t c k = let v = step job w (Reply a turns value) in let u = acts a turns (tells Gave) w in
    gives_hold (PassesAlong v) a value u (λ call child is found. let there = (t.children a call child (sym (ap (λ (x : Actor). x.child call) (put_here a (spends turns (tells Gave (w.actors a))) w.actors)) ∙ found)).there in
    record { from_there = omega (arith, there, c); there = omega (arith, h.stops.there, c); passes = inl (reply_passes w a turns value call child is found) })
    (acts_hold (PassesAlong v) a turns (tells Gave) w k)
step_pass job w (End a turns ending state) h t c k = finishes_hold (PassesAlong (step job w (End a turns ending state))) job a turns ending state w k
step_pass job w (Beat a) h t c k = same_hold (PassesAlong (step job w (Beat a))) w (step job w (Beat a)) refl refl k
step_pass job w (Match place) h t c k = matches_hold (PassesAlong (step job w (Match place))) place (slice_get w.due place) w k
step_pass job w (Arrive a) h t c k = same_hold (PassesAlong (step job w (Arrive a))) w (step job w (Arrive a)) refl refl k
step_pass job w (Accept o a number) h t c k = accepts_hold (PassesAlong (step job w (Accept o a number))) o a number (w.objects o) w k
step_pass job w (Quit why) h t c k = same_hold (PassesAlong (step job w (Quit why))) w (step job w (Quit why)) refl refl k

pub pass : (job : Job) (log : Log) → IsLog job log → PassesAll (after job log)
pass job [] h = record { waits = tt; due = tt }
pass job (e ∷ log) h = let w = after job log in let s = stand job log h.1 in let f = fated job log h.1 in let t = tree job log h.1 in let p = pass job log h.1 in let c = count_grows job w e h.0.1 in
    step_pass job w e h.0.1 t c (old_hold w (step job w e) c (passes_later job w e h.0.1 s f t p) p)
