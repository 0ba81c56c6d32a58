-- With more known a step is the same, unless it strayed or needed what wasn't known.
use Rattle.std.proofs.Common.{◌≡◌, ℕ, List, [], ◌∷◌, Option, Some, None, ℤ, refl, subst, inl, inr}
use Rattle.std.specs.List.{slice_get}
use Rattle.mpl_value.specs.declared.body.Arg.{Arg}
use Rattle.mpl_value.specs.declared.body.Arg.TheVariants.{Know, Trapped, Unknown}
use Rattle.mpl_value.specs.Growing.{Stays}
use Rattle.mdf_code.specs.declared.instr.Instr.{Instr}
use Rattle.mdf_code.specs.declared.instr.Instr.TheVariants as instr
use Rattle.mdf_code.specs.Alone.{Held, Words, Pending, StaysUnlessUnknown, framed, seen_by}
use Rattle.mdf_code.specs.Frames.{Around, Flow, Flows, Frame, Next, Goes, Spends, Stops, Calls, Creates, Ends, Needs, Replies, Strays, Traps}
use Rattle.mdf_code.specs.Parts.{text_at}
use Rattle.mdf_code.specs.Stacks.{given, known_words_of, popped, pushed}
use Rattle.mdf_code.specs.Steps.{Does, does, goes_with, needed, or_strays, step}

-- what the first sees stays as the second sees it
abbrev pub IsLess : {V : Type 0} → (V → Arg) → (V → Arg) → Type 0
IsLess {V} see more = (value : V) → Stays (see value) (more value)

abbrev Agrees : {V : Type 0} → (V → Arg) → Frame V → Does V → Does V → Type 0
Agrees see f first second = StaysUnlessUnknown see (or_strays f first) (or_strays f second)

same_next : {V : Type 0} (see : V → Arg) (next : Next V) → StaysUnlessUnknown see next next
same_next see (Goes f) = refl
same_next see (Spends f) = refl
same_next see (Stops (Calls member object arguments) f) = refl
same_next see (Stops (Needs value) f) = inr refl
same_next see (Stops (Replies value) f) = refl
same_next see (Stops (Creates class) f) = refl
same_next see (Stops (Ends line) f) = refl
same_next see (Stops Strays f) = tt
same_next see (Stops (Traps t) f) = refl

same : {V : Type 0} (see : V → Arg) (f : Frame V) (d : Does V) → Agrees see f d d
same see f d = same_next see (or_strays f d)

words_agree : {V : Type 0} (see : V → Arg) (f : Frame V) (a b : Arg) (next : List ℤ → Does V) → Stays a b → Agrees see f (given (known_words_of a) next) (given (known_words_of b) next)
words_agree see f (Know words) b next stays = subst (λ (c : Arg). Agrees see f (next words) (given (known_words_of c) next)) stays (same see f (next words))
words_agree see f (Trapped t) b next stays = tt
words_agree see f Unknown b next stays = tt

known_agree : {V : Type 0} (see more : V → Arg) → IsLess see more → (f : Frame V) (next : List ℤ → Does V) (o : Option V) →
    Agrees see f (given o (λ value. given (known_words_of (see value)) next)) (given o (λ value. given (known_words_of (more value)) next))
known_agree see more less f next None = tt
known_agree see more less f next (Some value) = words_agree see f (see value) (more value) next (less value)

needed_agree : {V : Type 0} (see : V → Arg) (f : Frame V) (value : V) (a b : Arg) (next : List ℤ → Does V) → see value ≡ a → Stays a b → Agrees see f (needed value a f next) (needed value b f next)
needed_agree see f value (Know words) b next is stays = subst (λ (c : Arg). Agrees see f (next words) (needed value c f next)) stays (same see f (next words))
needed_agree see f value (Trapped t) b next is stays = subst (λ (c : Arg). Agrees see f (Some (Stops (Traps t) f)) (needed value c f next)) stays refl
needed_agree see f value Unknown b next is stays = inl is

variable_agree : {V : Type 0} (see more : V → Arg) → IsLess see more → (f : Frame V) (next : List ℤ → Does V) (o : Option V) →
    Agrees see f (given o (λ value. needed value (see value) f next)) (given o (λ value. needed value (more value) f next))
variable_agree see more less f next None = tt
variable_agree see more less f next (Some value) = needed_agree see f value (see value) (more value) next refl (less value)

flow_agree : {V : Type 0} (see more : V → Arg) → IsLess see more → (f : Frame V) (flows : List (Flow V)) (next : List (Flow V) → List ℤ → Does V) →
    Agrees see f (given (popped flows) (λ top. needed top.items.value (see top.items.value) f (next top.below)))
    (given (popped flows) (λ top. needed top.items.value (more top.items.value) f (next top.below)))
flow_agree see more less f [] next = tt
flow_agree see more less f (flow ∷ below) next = needed_agree see f flow.value (see flow.value) (more flow.value) (next below) refl (less flow.value)

does_agree : {V : Type 0} (flows : Flows V) (more : V → Arg) → IsLess flows.see more → (x : Around) (i : Instr) (f : Frame V) → Agrees flows.see f (does flows x i f) (does (record flows { see = more }) x i f)
does_agree flows more less x (instr.Load variable offset count) f = known_agree flows.see more less f _ (slice_get f.variables variable)
does_agree flows more less x (instr.Store variable offset count) f = known_agree flows.see more less f _ (slice_get f.variables variable)
does_agree flows more less x (instr.LoadIndexed variable offset count line) f = known_agree flows.see more less f _ (slice_get f.variables variable)
does_agree flows more less x (instr.StoreIndexed variable offset count line) f = known_agree flows.see more less f _ (slice_get f.variables variable)
does_agree flows more less x (instr.Need variable) f = variable_agree flows.see more less f _ (slice_get f.variables variable)
does_agree flows more less x instr.Force f = flow_agree flows.see more less f f.flows (λ below words. goes_with (pushed words f.words) (record f { flows = below }))
does_agree flows more less x other f = same flows.see f (does flows x other f)

pub more_seen : {V : Type 0} (flows : Flows V) (more : V → Arg) → IsLess flows.see more → (x : Around) (f : Frame V) → StaysUnlessUnknown flows.see (step flows x f) (step (record flows { see = more }) x f)
more_seen flows more less x f = at_instruction (slice_get (text_at x.image f.code) f.place) where
  at_instruction : (o : Option Instr) → Agrees flows.see f (given o (λ i. does flows x i f)) (given o (λ i. does (record flows { see = more }) x i f))
  at_instruction None = tt
  at_instruction (Some i) = does_agree flows more less x i f

-- ---- a frame alone

seen_stays : (knows more : ℕ → Arg) → ((result : ℕ) → Stays (knows result) (more result)) → IsLess (seen_by knows) (seen_by more)
seen_stays knows more less (Words words) = refl
seen_stays knows more less (Pending result) = less result

pub more_known : (knows more : ℕ → Arg) → ((result : ℕ) → Stays (knows result) (more result)) → (x : Around) (f : Frame Held) →
    StaysUnlessUnknown (seen_by knows) (step (framed knows) x f) (step (framed more) x f)
more_known knows more less = more_seen (framed knows) (seen_by more) (seen_stays knows more less)
