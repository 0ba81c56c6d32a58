-- A frame learns the result of each of its calls once, so it learns no more results than it made calls.
use Rattle.std.proofs.Common.{◌≡◌, ◌+◌, ◌<◌, ◌≤◌, ◌==◌, ℕ, zero, suc, Bool, true, false, cond, List, [], ◌∷◌, Option, Some, None, refl, sym, ap, ◌∙◌, subst, arith, nat_le, ◌⊎◌, inl, inr}
use Rattle.std.proofs.lemmas.Bool.{leb-false, leb-true}
use Rattle.mpl_value.specs.CallAnswers.{arg_of_reply}
use Rattle.mpl_value.specs.declared.body.Arg.{Arg}
use Rattle.mpl_value.specs.declared.body.Arg.TheVariants as arg
use Rattle.mpl_value.specs.declared.body.BodyStart.{BodyStart}
use Rattle.mpl_value.specs.declared.known.Known.{Known}
use Rattle.mpl_value.specs.declared.known.Known.TheVariants as known
use Rattle.mdf_code.specs.declared.raw.RawImage.{RawImage}
use Rattle.mdf_code.specs.Alone.{Held, Words, Pending, framed, seen_by}
use Rattle.mdf_code.specs.Frames.{Around, Frame, Next, Goes, Spends, Stops, Calls, Creates, Ends, Needs, Replies, Strays, Traps}
use Rattle.mdf_code.specs.Stacks.{given}
use Rattle.mdf_code.specs.Steps.{step}
use Rattle.mdf_code.specs.Told.{Alone, Beaten, Beats, Called, Gave, Halt, Learnt, Named, NamesMade, Stands, Stood, Told, after, around_start, behind, calls_made, first, learns, most_turns, run, runs_on, told_at}
use Rattle.mdf_code.proofs.NeedingSteps.{StopsHere, stops_here}
use Rattle.mdf_code.proofs.ToldFrames.{names_made}
use Rattle.mdf_core.specs.Causes.{AreSo, IsSo}
use Rattle.mdf_core.specs.Worlds.{Job, World}
use Rattle.mdf_core.proofs.Lists.{nat_differ, nat_same, same_or}

abbrev pub results_learnt : List Told → ℕ
results_learnt [] = 0
results_learnt (Learnt known ∷ before) = results_learnt before + 1
results_learnt (told ∷ before) = results_learnt before

-- ---- results that are known

abbrev one_known : Arg → ℕ
one_known (arg.Know words) = 1
one_known (arg.Trapped trap) = 1
one_known arg.Unknown = 0

-- of the calls with these numbers and below, down to 1
abbrev known_to : (ℕ → Arg) → ℕ → ℕ
known_to knows zero = 0
known_to knows (suc n) = known_to knows n + one_known (knows (suc n))

at_most_one : (a : Arg) → one_known a ≤ 1
at_most_one (arg.Know words) = omega arith
at_most_one (arg.Trapped trap) = omega arith
at_most_one arg.Unknown = omega arith

known_few : (knows : ℕ → Arg) (n : ℕ) → known_to knows n ≤ n
known_few knows zero = omega arith
known_few knows (suc n) = let few = known_few knows n in let one = at_most_one (knows (suc n)) in omega (arith, few, one)

pub less_than : (m n : ℕ) → m ≤ suc n → (m ≡ suc n → ⊥) → m ≤ n
less_than m n under differ = at (nat_le m n) refl where
  at : (b : Bool) → nat_le m n ≡ b → m ≤ n
  at true e = leb-true m n e
  at false e = absurd (differ (omega (arith, under, leb-false m n e)))

-- one that isn't known is no part of them
unknown_fewer : (knows : ℕ → Arg) (call n : ℕ) → knows call ≡ arg.Unknown → 1 ≤ call → call ≤ n → known_to knows n + 1 ≤ n
unknown_fewer knows call zero is one under = absurd (omega (arith, one, under))
unknown_fewer knows call (suc n) is one under = at (same_or call (suc n)) (λ u. unknown_fewer knows call n is one u) where
  at : (call ≡ suc n) ⊎ (call ≡ suc n → ⊥) → (call ≤ n → known_to knows n + 1 ≤ n) → known_to knows (suc n) + 1 ≤ suc n
  at (inl same) again = let none : one_known (knows (suc n)) ≡ 0 = ap one_known (ap knows (sym same) ∙ is) in let few = known_few knows n in omega (arith, none, few)
  at (inr differ) again = let few = again (less_than call n under differ) in let most = at_most_one (knows (suc n)) in omega (arith, few, most)

known_is : (k : Known) → one_known (arg_of_reply (Some k)) ≡ 1
known_is (known.Value words) = refl
known_is (known.Trapped trap) = refl

learns_other : (knows : ℕ → Arg) (call n : ℕ) (value : Arg) → (n ≡ call → ⊥) → learns call value knows n ≡ knows n
learns_other knows call n value differ = ap (λ b. cond b value (knows n)) (nat_differ n call differ)

learns_one : (knows : ℕ → Arg) (call : ℕ) (value : Arg) → learns call value knows call ≡ value
learns_one knows call value = ap (λ b. cond b value (knows call)) (nat_same call)

-- below the one that is learnt nothing changes
learns_above : (knows : ℕ → Arg) (call n : ℕ) (value : Arg) → n < call → known_to (learns call value knows) n ≡ known_to knows n
learns_above knows call zero value above = refl
learns_above knows call (suc n) value above =
    let same = learns_above knows call n value (omega (arith, above)) in
    let one = ap one_known (learns_other knows call (suc n) value (λ e. absurd (omega (arith, e, above)))) in omega (arith, same, one)

learns_more : (knows : ℕ → Arg) (call n : ℕ) (value : Arg) → one_known value ≡ 1 → knows call ≡ arg.Unknown → 1 ≤ call → call ≤ n → known_to knows n + 1 ≡ known_to (learns call value knows) n
learns_more knows call zero value is was one under = absurd (omega (arith, one, under))
learns_more knows call (suc n) value is was one under = at (same_or call (suc n)) (λ u. learns_more knows call n value is was one u) where
  at : (call ≡ suc n) ⊎ (call ≡ suc n → ⊥) → (call ≤ n → known_to knows n + 1 ≡ known_to (learns call value knows) n) → known_to knows (suc n) + 1 ≡ known_to (learns call value knows) (suc n)
  at (inl same) again =
      let rest = learns_above knows call n value (omega (arith, same)) in
      let none : one_known (knows (suc n)) ≡ 0 = ap one_known (ap knows (sym same) ∙ was) in
      let now : one_known (learns call value knows (suc n)) ≡ 1 = ap one_known (ap (learns call value knows) (sym same) ∙ learns_one knows call value) ∙ is in
      omega (arith, rest, none, now)
  at (inr differ) again =
      let rest = again (less_than call n under differ) in
      let other = ap one_known (learns_other knows call (suc n) value (λ e. differ (sym e))) in omega (arith, rest, other)

-- ---- needs

-- a result that is needed isn't known
abbrev NeedsUnknown : (ℕ → Arg) → Halt → Type 0
NeedsUnknown knows (Stands (Needs (Pending call))) = knows call ≡ arg.Unknown
NeedsUnknown knows halt = Unit {0}

abbrev NextUnknown : (ℕ → Arg) → Next Held → Type 0
NextUnknown knows (Stops stop g) = NeedsUnknown knows (Stands stop)
NextUnknown knows next = Unit {0}

next_unknown : (knows : ℕ → Arg) (f : Frame Held) (next later : Next Held) → StopsHere (seen_by knows) (seen_by knows) f next later → NextUnknown knows next
next_unknown knows f (Stops (Needs (Words words)) g) later here = tt
next_unknown knows f (Stops (Needs (Pending call)) g) later here = here.unknown
next_unknown knows f (Stops (Calls member object arguments) g) later here = tt
next_unknown knows f (Stops (Replies value) g) later here = tt
next_unknown knows f (Stops (Creates class) g) later here = tt
next_unknown knows f (Stops (Ends line) g) later here = tt
next_unknown knows f (Stops Strays g) later here = tt
next_unknown knows f (Stops (Traps trap) g) later here = tt
next_unknown knows f (Goes g) later here = tt
next_unknown knows f (Spends g) later here = tt

some_is : {A : Type 0} (a b : A) → Some a ≡ Some b → a ≡ b
some_is a b e = cc e

run_unknown : (fuel : ℕ) (knows : ℕ → Arg) (x : Around) (quantum turns : ℕ) (f : Frame Held) (stood : Stood) → run fuel knows x quantum turns f ≡ Some stood → NeedsUnknown knows stood.halt
run_unknown zero knows x quantum turns f stood e = absurd cc
run_unknown (suc fuel) knows x quantum turns f stood e =
    by_next (step (framed knows) x f) (next_unknown knows f (step (framed knows) x f) (step (framed knows) x f) (stops_here (framed knows) (seen_by knows) x f)) e (run_unknown fuel knows x quantum) where
      by_beat : (b : Bool) (turns : ℕ) (g : Frame Held) → cond b (Some (record { halt = Beats; turns = turns; frame = g })) (run fuel knows x quantum turns g) ≡ Some stood
          → ((turns : ℕ) (g : Frame Held) (stood : Stood) → run fuel knows x quantum turns g ≡ Some stood → NeedsUnknown knows stood.halt) → NeedsUnknown knows stood.halt
      by_beat true turns g e again = subst (λ (s : Stood). NeedsUnknown knows s.halt) (some_is (record { halt = Beats; turns = turns; frame = g }) stood e) tt
      by_beat false turns g e again = again turns g stood e

      by_next : (next : Next Held) → NextUnknown knows next → after (run fuel knows x quantum) quantum turns next ≡ Some stood
          → ((turns : ℕ) (g : Frame Held) (stood : Stood) → run fuel knows x quantum turns g ≡ Some stood → NeedsUnknown knows stood.halt) → NeedsUnknown knows stood.halt
      by_next (Goes g) m e again = again turns g stood e
      by_next (Spends g) m e again = by_beat (turns + 1 == quantum) (turns + 1) g e again
      by_next (Stops stop g) m e again = subst (λ (s : Stood). NeedsUnknown knows s.halt) (some_is (record { halt = Stands stop; turns = turns; frame = g }) stood e) m

-- ---- what a frame was told

-- its calls are counted, and it knows what it learnt
record Knows (told : List Told) (a : Alone) : Type 0 where
  calls : a.calls ≡ calls_made told
  learnt : results_learnt told ≤ known_to a.knows a.calls

given_some : {A B : Type 0} (o : Option A) (next : A → Option B) (y : B) → given o next ≡ Some y → (x : A) × (o ≡ Some x) × (next x ≡ Some y)
given_some None next y e = absurd cc
given_some (Some x) next y e = (x, refl, e)

more_calls : (learnt calls : ℕ) (knows : ℕ → Arg) → learnt ≤ known_to knows calls → learnt ≤ known_to knows (calls + 1)
more_calls learnt calls knows few = subst (λ n. learnt ≤ known_to knows n) (plus_one calls) (omega (arith, few)) where
  plus_one : (n : ℕ) → suc n ≡ n + 1
  plus_one n = omega arith

told_knows : (image : RawImage) (before : List Told) (a : Alone) (f : Frame Held) (halt : Halt) (t : Told) (b : Alone) → Knows before a → NeedsUnknown a.knows halt → NamesMade a.calls halt → told_at image a f halt t ≡ Some b → Knows (t ∷ before) b
told_knows image before a f (Stands (Calls member object arguments)) Called b k needs made e =
    subst (Knows (Called ∷ before)) (some_is _ b e) (record { calls = ap (λ (n : ℕ). n + 1) k.calls; learnt = more_calls (results_learnt before) a.calls a.knows k.learnt })
told_knows image before a f (Stands (Needs (Pending call))) (Learnt known) b k needs made e =
    subst (Knows (Learnt known ∷ before)) (some_is _ b e) (record {
      calls = k.calls;
      learnt = (let more = learns_more a.knows call a.calls (arg_of_reply (Some known)) (known_is known) needs made.0 made.1 in let few = k.learnt in omega (arith, more, few));
    })
told_knows image before a f (Stands (Creates class)) (Named object) b k needs made e = subst (Knows (Named object ∷ before)) (some_is _ b e) (record { calls = k.calls; learnt = k.learnt })
told_knows image before a f (Stands (Replies value)) Gave b k needs made e = subst (Knows (Gave ∷ before)) (some_is _ b e) (record { calls = k.calls; learnt = k.learnt })
told_knows image before a f Beats Beaten b k needs made e = subst (Knows (Beaten ∷ before)) (some_is _ b e) (record { calls = k.calls; learnt = k.learnt })
told_knows image before a f halt t b k needs made e = absurd (cc e)

-- a halt that steps led to
halts_unknown : (steps : ℕ) (image : RawImage) (start : BodyStart) (a : Alone) (stood : Stood) → runs_on steps image start a ≡ Some stood → NeedsUnknown a.knows stood.halt
halts_unknown steps image start a stood e = run_unknown steps a.knows (around_start image start) most_turns 0 a.frame stood e

halts_made : (steps : ℕ) (image : RawImage) (start : BodyStart) (told : List Told) (a : Alone) (stood : Stood) → behind steps image start told ≡ Some a → runs_on steps image start a ≡ Some stood → a.calls ≡ calls_made told → NamesMade a.calls stood.halt
halts_made steps image start told a stood is e calls =
    subst (λ n. NamesMade n stood.halt) (sym calls) (names_made image start told stood (record { steps = steps; within = ap (λ (o : Option Alone). given o (runs_on steps image start)) is ∙ e }))

behind_knows : (fuel : ℕ) (image : RawImage) (start : BodyStart) (told : List Told) (a : Alone) → behind fuel image start told ≡ Some a → Knows told a
behind_knows fuel image start [] a e = subst (Knows []) (some_is (first image start) a e) (record { calls = refl; learnt = omega arith })
behind_knows fuel image start (t ∷ before) b e =
    let one = given_some (behind fuel image start before) (λ a. given (runs_on fuel image start a) (λ stood. told_at image a stood.frame stood.halt t)) b e in
    let two = given_some (runs_on fuel image start one.0) (λ stood. told_at image one.0 stood.frame stood.halt t) b one.2 in
    let k = behind_knows fuel image start before one.0 one.1 in
    told_knows image before one.0 two.0.frame two.0.halt t b k (halts_unknown fuel image start one.0 two.0 two.1) (halts_made fuel image start before one.0 two.0 one.1 two.1 k.calls) two.2

-- ---- what is learnt in a machine

-- behind a halt where a result is learnt, one more is known
learnt_here : (w : World) (a : ℕ) (before : List Told) (knows : ℕ → Arg) (calls : ℕ) (k : Known) (halt : Halt) → IsSo w a before halt (Learnt k) → NeedsUnknown knows halt → NamesMade calls halt → known_to knows calls + 1 ≤ calls
learnt_here w a before knows calls k (Stands (Needs (Pending call))) so needs made = unknown_fewer knows call calls needs made.0 made.1
learnt_here w a before knows calls k (Stands (Needs (Words words))) so needs made = absurd so
learnt_here w a before knows calls k (Stands (Calls member object arguments)) so needs made = absurd so
learnt_here w a before knows calls k (Stands (Replies value)) so needs made = absurd so
learnt_here w a before knows calls k (Stands (Creates class)) so needs made = absurd so
learnt_here w a before knows calls k (Stands (Ends line)) so needs made = absurd so
learnt_here w a before knows calls k (Stands Strays) so needs made = absurd so
learnt_here w a before knows calls k (Stands (Traps trap)) so needs made = absurd so
learnt_here w a before knows calls k Beats so needs made = absurd so

-- a frame learns no more results than it made calls
pub learns_few : (job : Job) (w : World) (a : ℕ) (told : List Told) → AreSo job w a told → results_learnt told ≤ calls_made told
learns_few job w a [] so = omega arith
learns_few job w a (Called ∷ before) so = let few = learns_few job w a before so.1 in omega (arith, few)
learns_few job w a (Named object ∷ before) so = learns_few job w a before so.1
learns_few job w a (Gave ∷ before) so = learns_few job w a before so.1
learns_few job w a (Beaten ∷ before) so = learns_few job w a before so.1
learns_few job w a (Learnt known ∷ before) so =
    let start = (w.actors a).start in let halts = so.0.halts in
    let one = given_some (behind halts.steps job.image start before) (runs_on halts.steps job.image start) so.0.stood halts.within in
    let k = behind_knows halts.steps job.image start before one.0 one.1 in
    let few = learnt_here w a before one.0.knows one.0.calls known so.0.stood.halt so.0.is (halts_unknown halts.steps job.image start one.0 so.0.stood one.2)
    (halts_made halts.steps job.image start before one.0 so.0.stood one.1 one.2 k.calls) in
    let learnt = k.learnt in let calls = k.calls in omega (arith, few, learnt, calls)
