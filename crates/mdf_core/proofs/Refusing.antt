-- Why an event doesn't apply.
use Rattle.std.proofs.Common.{◌≡◌, ◌+◌, ◌<◌, ◌≤◌, ℕ, true, false, List, Option, Some, None, ℤ, option_map, refl, sym, ap, ◌∙◌, subst, arith, lt-ltb, ltb-true, nat_lt}
use Rattle.mpl_value.specs.declared.known.Known.{Known}
use Rattle.mdf_actor.specs.declared.status.ActorStatus.TheVariants as status
use Rattle.mdf_code.specs.Told.{Halt, Stood, next_within}
use Rattle.mdf_code.proofs.OneHalt.{one_halt}
use Rattle.mdf_core.specs.Enabled.{MayEnd, MayPark, MayResume, Stops, StopsAt, ending_at}
use Rattle.mdf_core.specs.Events.{Ending}
use Rattle.mdf_core.specs.Worlds.{Job, World, known_at}

-- what is seen of a frame's next stop, where it is found within so many steps
seen_is : {A : Type 0} (see : Stood → A) (steps : ℕ) (job : Job) (w : World) (a turns : ℕ) (stood : Stood) (x : A) →
    option_map see (next_within steps job.image (w.actors a).start (w.actors a).told) ≡ Some x → StopsAt job w a turns stood → see stood ≡ x
seen_is {A} see steps job w a turns stood x h s = at (next_within steps job.image (w.actors a).start (w.actors a).told) refl h where
  some_is : {B : Type 0} {y z : B} → Some y ≡ Some z → y ≡ z
  some_is e = cc e

  at : (o : Option Stood) → next_within steps job.image (w.actors a).start (w.actors a).told ≡ o → option_map see o ≡ Some x → see stood ≡ x
  at None within e = absurd (cc e)
  at (Some other) within e =
      ap see (one_halt job.image (w.actors a).start (w.actors a).told stood other s.halts (record { steps = steps; within = within })) ∙ some_is e

abbrev pub halt_of : Stood → Halt
halt_of stood = stood.halt

abbrev pub turns_of : Stood → ℕ
turns_of stood = stood.turns

abbrev pub state_of : Stood → List ℤ
state_of stood = stood.frame.state

abbrev pub ending_of : Stood → Option Ending
ending_of stood = ending_at stood.halt

-- a frame that stops elsewhere
pub elsewhere : (steps : ℕ) (job : Job) (w : World) (a turns : ℕ) (halt other : Halt) →
    option_map halt_of (next_within steps job.image (w.actors a).start (w.actors a).told) ≡ Some other → (other ≡ halt → ⊥) → Stops job w a turns halt → ⊥
elsewhere steps job w a turns halt other h differ s = differ (sym (seen_is halt_of steps job w a turns s.stood other h s.stops) ∙ s.is)

-- one that comes to no such end
pub no_end : (steps : ℕ) (job : Job) (w : World) (a turns : ℕ) (ending : Ending) (state : List ℤ) (other : Option Ending) →
    option_map ending_of (next_within steps job.image (w.actors a).start (w.actors a).told) ≡ Some other → (other ≡ Some ending → ⊥) → MayEnd job w a turns ending state → ⊥
no_end steps job w a turns ending state other h differ s = differ (sym (seen_is ending_of steps job w a turns s.stood other h s.stops) ∙ s.ends)

-- one that leaves another state
pub other_state : (steps : ℕ) (job : Job) (w : World) (a turns : ℕ) (ending : Ending) (state other : List ℤ) →
    option_map state_of (next_within steps job.image (w.actors a).start (w.actors a).told) ≡ Some other → (other ≡ state → ⊥) → MayEnd job w a turns ending state → ⊥
other_state steps job w a turns ending state other h differ s = differ (sym (seen_is state_of steps job w a turns s.stood other h s.stops) ∙ s.leaves)

-- a number that isn't below another
pub not_below : (m n : ℕ) → nat_lt m n ≡ false → m < n → ⊥
not_below m n h l = absurd (cc (h, lt-ltb m n l))

pub above : (m n : ℕ) → nat_lt n m ≡ true → m ≤ n → ⊥
above m n h l = absurd (omega (arith, ltb-true n m h, l))

-- one that took other turns
pub other_turns : (steps : ℕ) (job : Job) (w : World) (a turns : ℕ) (halt : Halt) (other : ℕ) →
    option_map turns_of (next_within steps job.image (w.actors a).start (w.actors a).told) ≡ Some other → (other ≡ turns + (w.actors a).counted → ⊥) → Stops job w a turns halt → ⊥
other_turns steps job w a turns halt other h differ s = differ (sym (seen_is turns_of steps job w a turns s.stood other h s.stops) ∙ s.stops.turns_are)

-- a result that is known isn't parked for
pub parks_known : (job : Job) (w : World) (a turns call child : ℕ) (known : Known) → (w.actors a).child call ≡ Some child → known_at w (Some child) ≡ Some known → MayPark job w a turns call → ⊥
parks_known job w a turns call child known of is p =
    let same : child ≡ p.child = cc (of, p.of_call) in absurd (cc (subst (λ c. known_at w (Some c) ≡ Some known) same is, p.unknown))

-- one that isn't known isn't resumed for
pub resumes_unknown : (w : World) (a child : ℕ) → (w.actors a).status ≡ status.Parked child → known_at w (Some child) ≡ None → MayResume w a → ⊥
resumes_unknown w a child parked unknown r =
    let same : child ≡ r.child = cc (parked, r.parked) in absurd (cc (subst (λ c. known_at w (Some c) ≡ None) same unknown, r.is))
