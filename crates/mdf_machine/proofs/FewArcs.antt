-- How many arcs there are at most: to each port and to each result there leads one.
use Rattle.std.proofs.Common.{◌≡◌, ◌<◌, ◌≤◌, ◌+◌, ◌*◌, ◌&&◌, ◌⊎◌, ℕ, ℤ, zero, suc, true, false, List, [], ◌∷◌, length, refl, sym, ap, ap₂, ◌∙◌, subst, arith, inl, inr, nat_eq}
use Rattle.std.specs.List.{AllByRecursion}
use Rattle.std.proofs.lemmas.Option.{slice_get_within}
use Rattle.mdf_code.specs.Alone.{Held, Pending}
use Rattle.mdf_code.specs.Images.{is_image, most_formals}
use Rattle.mdf_core.specs.Actors.{Arc, Call, Target, Port, Result}
use Rattle.mdf_core.specs.Arguments.{Leads, LeadsTo}
use Rattle.mdf_core.specs.Awaited.{one_if, times_there}
use Rattle.mdf_core.specs.Enabled.{Enabled, IsLog, MaySend}
use Rattle.mdf_core.specs.Events.{Event, Send}
use Rattle.mdf_core.specs.Naming.{sum_below}
use Rattle.mdf_core.specs.Steps.{Log, after, sends, step}
use Rattle.mdf_core.specs.Worlds.{Job, World}
use Rattle.mdf_core.proofs.EachStep.{ByAccept, ByActor, ByArrival, ByCall, ByEnd, ByToken, Change, changes, is_send}
use Rattle.mdf_core.proofs.Lists.{nat_differ, nat_same, same_or, sum_more, sum_same}
use Rattle.mdf_core.proofs.Once.{once}
use Rattle.mdf_core.proofs.ToldSo.{Later}
use Rattle.mdf_core.proofs.Transitions.{Came, sends_sent}
use Rattle.mdf_core.proofs.TreeOfActors.{by_event, count_stays}
use Rattle.mdf_core.proofs.Wired.{arcs_lead, later_at, new_call_is}
use Rattle.mdf_drive.specs.Handing.{HandsOut}
use Rattle.mdf_drive.proofs.HandedOut.{hands_out_little}

-- ---- slots

-- a port or a result of so many actors
abbrev IsSlot : ℕ → Target → Type 0
IsSlot n (Port c port) = (c < n) × (port < 16)
IsSlot n (Result a) = a < n

-- how many arcs lead to the ports and the result of an actor
abbrev to_actor : List Arc → ℕ → ℕ
to_actor arcs c = sum_below 16 (λ port. times_there (Port c port) arcs) + times_there (Result c) arcs

abbrev to_all : ℕ → List Arc → ℕ
to_all n arcs = sum_below n (to_actor arcs)

both_same : (c port : ℕ) → one_if (nat_eq c c && nat_eq port port) ≡ 1
both_same c port = ap₂ (λ a b. one_if (a && b)) (nat_same c) (nat_same port)

first_differs : (d c port other : ℕ) → (c ≡ d → ⊥) → one_if (nat_eq d c && nat_eq port other) ≡ 0
first_differs d c port other differ = ap (λ b. one_if (b && nat_eq port other)) (nat_differ d c (λ e. differ (sym e)))

second_differs : (c port other : ℕ) → (other ≡ port → ⊥) → one_if (nat_eq c c && nat_eq port other) ≡ 0
second_differs c port other differ = ap₂ (λ a b. one_if (a && b)) (nat_same c) (nat_differ port other (λ e. differ (sym e)))

one_differs : (a b : ℕ) → (b ≡ a → ⊥) → one_if (nat_eq a b) ≡ 0
one_differs a b differ = ap one_if (nat_differ a b (λ e. differ (sym e)))

module _ (arcs : List Arc) (from : ℕ) where
  port_more : (d port : ℕ) → port < 16 → sum_below 16 (λ i. times_there (Port d i) (record { from = from; to = Port d port } ∷ arcs)) ≡ sum_below 16 (λ i. times_there (Port d i) arcs) + 1
  port_more d port few = sum_more 16 port 1 (λ i. times_there (Port d i) arcs) (λ i. times_there (Port d i) (record { from = from; to = Port d port } ∷ arcs)) few
      (λ i differ. omega (arith, second_differs d port i differ)) (omega (arith, both_same d port))

  port_same : (d c port : ℕ) → (c ≡ d → ⊥) → sum_below 16 (λ i. times_there (Port c i) (record { from = from; to = Port d port } ∷ arcs)) ≡ sum_below 16 (λ i. times_there (Port c i) arcs)
  port_same d c port differ = sum_same 16 (λ i. times_there (Port c i) arcs) (λ i. times_there (Port c i) (record { from = from; to = Port d port } ∷ arcs)) (λ i below. omega (arith, first_differs d c port i differ))

  result_same : (b c : ℕ) → sum_below 16 (λ i. times_there (Port c i) (record { from = from; to = Result b } ∷ arcs)) ≡ sum_below 16 (λ i. times_there (Port c i) arcs)
  result_same b c = sum_same 16 (λ i. times_there (Port c i) arcs) (λ i. times_there (Port c i) (record { from = from; to = Result b } ∷ arcs)) (λ i below. omega arith)

  one_more : (n : ℕ) (to : Target) → IsSlot n to → to_all n (record { from = from; to = to } ∷ arcs) ≡ to_all n arcs + 1
  one_more n (Port d port) slot = sum_more n d 1 (to_actor arcs) (to_actor (record { from = from; to = Port d port } ∷ arcs)) slot.0
      (λ c differ. omega (arith, port_same d c port differ)) (omega (arith, port_more d port slot.1))
  one_more n (Result b) slot = sum_more n b 1 (to_actor arcs) (to_actor (record { from = from; to = Result b } ∷ arcs)) slot
      (λ c differ. omega (arith, result_same b c, one_differs b c differ)) (omega (arith, result_same b b, ap one_if (nat_same b)))

none_at_all : (n : ℕ) → to_all n [] ≡ 0
none_at_all zero = refl
none_at_all (suc n) = omega (arith, none_at_all n)

each_counted : (n : ℕ) (arcs : List Arc) → AllByRecursion (λ (arc : Arc). IsSlot n arc.to) arcs → to_all n arcs ≡ length arcs
each_counted n [] h = none_at_all n
each_counted n (arc ∷ arcs) h = omega (arith, one_more arcs arc.from n arc.to h.0, each_counted n arcs h.1)

one_each : (n : ℕ) (f : ℕ → ℕ) → ((k : ℕ) → f k ≤ 1) → sum_below n f ≤ n
one_each zero f one = omega arith
one_each (suc n) f one = omega (arith, one_each n f one, one n)

few_each : (n : ℕ) (f : ℕ → ℕ) → ((k : ℕ) → f k ≤ 17) → sum_below n f ≤ 17 * n
few_each zero f few = omega arith
few_each (suc n) f few = omega (arith, few_each n f few, few n)

few_arcs : (n : ℕ) (arcs : List Arc) → AllByRecursion (λ (arc : Arc). IsSlot n arc.to) arcs → ((to : Target) → times_there to arcs ≤ 1) → length arcs ≤ 17 * n
few_arcs n arcs slots once = omega (arith, each_counted n arcs slots, few_each n (to_actor arcs) (λ c. omega (arith, one_each 16 (λ port. times_there (Port c port) arcs) (λ port. once (Port c port)), once (Result c))))

-- ---- logs

turns_grow : (job : Job) (w v : World) (e : Event) → Change job w e v → w.turns ≤ v.turns
turns_grow job w v e (ByActor x) = omega (arith, x.acted.turns)
turns_grow job w v e (ByCall x) = omega (arith, x.sent.turns)
turns_grow job w v e (ByToken x) = by_token x.came where
  by_token : Came w v → w.turns ≤ v.turns
  by_token (c, inl q) = omega (arith, q.only.turns)
  by_token (c, inr f) = omega (arith, f.turns)
turns_grow job w v e (ByArrival x) = omega (arith, x.turns)
turns_grow job w v e (ByAccept x) = omega (arith, x.turns)
turns_grow job w v e (ByEnd x) = omega (arith, x.turns)

-- there are few actors, and each has few arguments
record Few (job : Job) (w : World) : Type 0 where
  turned : w.count ≤ w.turns + 1
  within : w.count ≤ job.budget + 2
  arguments : (c : ℕ) → c < w.count → length (w.actors c).call.arguments ≤ 16

few : (job : Job) (log : Log) → is_image job.image ≡ true → IsLog job log → Few job (after job log)
few job [] image h = record { turned = omega arith; within = omega arith; arguments = λ c below. omega arith }
few job (e ∷ log) image h = next (few job log image h.1) where
  w : World
  w = after job log

  l : Later (after job log) (step job (after job log) e)
  l = later_at job e log h

  kept : Few job (after job log) → (c : ℕ) → c < (after job log).count → length ((step job (after job log) e).actors c).call.arguments ≤ 16
  kept f c below = omega (arith, f.arguments c below, ap (λ (x : Call). length x.arguments) (l.calls c below))

  by_call : Few job (after job log) → (a turns callee member : ℕ) (object : ℤ) (arguments : List Held) → e ≡ Send a turns callee member object arguments → Few job (step job (after job log) e)
  by_call f a turns callee member object arguments is =
      let may : MaySend job (after job log) a turns callee member object arguments = subst (Enabled job (after job log)) is h.0.1 in
      let same : step job (after job log) e ≡ sends job a turns (after job log).count member object arguments (after job log) = ap (step job (after job log)) is ∙ ap (λ c. sends job a turns c member object arguments (after job log)) may.next in
      let s = sends_sent job a turns (after job log).count member object arguments (after job log) (λ e. absurd (omega (arith, e, may.stops.stops.there))) in
      let out : length arguments ≤ most_formals = (subst (HandsOut (after job log) a) may.stops.is (hands_out_little job log image h.1 a turns may.stops.stood may.stops.stops)).0 in
      let count = ap (λ (v : World). v.count) same ∙ s.count in
      record {
        turned = omega (arith, f.turned, count, ap (λ (v : World). v.turns) same ∙ s.turns);
        within = omega (arith, f.turned, may.within, count);
        arguments = λ c below. at c (omega (arith, below, count)) (same_or c (after job log).count) (ap (λ (v : World). length (v.actors (after job log).count).call.arguments) same ∙ ap (λ (x : Call). length x.arguments) (new_call_is job (after job log) a turns member object arguments)) out;
      } where
        at : (c : ℕ) → c < (after job log).count + 1 → (c ≡ (after job log).count) ⊎ (c ≡ (after job log).count → ⊥) → length ((step job (after job log) e).actors (after job log).count).call.arguments ≡ length arguments → length arguments ≤ most_formals
            → length ((step job (after job log) e).actors c).call.arguments ≤ 16
        at c below (inl is) new out = omega (arith, ap (λ j. length ((step job (after job log) e).actors j).call.arguments) is, new, out)
        at c below (inr differ) new out = kept f c (omega (arith, below, differ))

  by_other : Few job (after job log) → is_send e ≡ false → Few job (step job (after job log) e)
  by_other f other =
      let c = changes job (after job log) e h.0.1 in
      let count = count_stays job (after job log) (step job (after job log) e) e c other in
      record {
        turned = omega (arith, f.turned, count, turns_grow job (after job log) (step job (after job log) e) e c);
        within = omega (arith, f.within, count);
        arguments = λ k below. kept f k (omega (arith, below, count));
      }

  next : Few job (after job log) → Few job (step job (after job log) e)
  next f = by_event e (by_call f) (by_other f)

-- ---- what is due

slot_of : (w : World) → ((c : ℕ) → c < w.count → length (w.actors c).call.arguments ≤ 16) → (from : ℕ) (to : Target) → LeadsTo w from to → IsSlot w.count to
slot_of w args from (Port c port) h = (h.there, omega (arith, args c h.there, slice_get_within (w.actors c).call.arguments port (Pending h.call) h.at))
slot_of w args from (Result a) h = h.there

slots_of : (w : World) → ((c : ℕ) → c < w.count → length (w.actors c).call.arguments ≤ 16) → (arcs : List Arc) → AllByRecursion (Leads w) arcs → AllByRecursion (λ (arc : Arc). IsSlot w.count arc.to) arcs
slots_of w args [] h = tt
slots_of w args (arc ∷ arcs) h = (slot_of w args arc.from arc.to h.0, slots_of w args arcs h.1)

pub few_due : (job : Job) (log : Log) → is_image job.image ≡ true → IsLog job log → length (after job log).due ≤ 17 * (after job log).count
few_due job log image h =
    let f = few job log image h in
    few_arcs (after job log).count (after job log).due (slots_of (after job log) f.arguments (after job log).due (arcs_lead job log h).due) (λ to. omega (arith, once job log h to))

pub few_actors : (job : Job) (log : Log) → is_image job.image ≡ true → IsLog job log → (after job log).count ≤ job.budget + 2
few_actors job log image h = (few job log image h).within
