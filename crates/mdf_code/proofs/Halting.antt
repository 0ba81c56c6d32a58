-- The frame of an image halts, from its start and behind each thing that it can be told.
use Rattle.std.proofs.Common.{◌≡◌, ◌≤◌, ◌<◌, ◌+◌, ◌==◌, ℕ, zero, suc, Bool, true, false, List, [], ◌∷◌, length, Option, Some, None, cond, refl, sym, ap, ◌∙◌, subst, arith, inl, inr}
use Rattle.std.proofs.lemmas.Bool.{eqb-false}
use Rattle.std.specs.List.{slice_get}
use Rattle.mpl_value.specs.declared.body.Arg.{Arg}
use Rattle.mpl_value.specs.declared.body.BodyStart.{BodyStart}
use Rattle.mdf_code.specs.declared.instr.Instr.{Instr}
use Rattle.mdf_code.specs.declared.raw.RawImage.{RawImage}
use Rattle.mdf_code.specs.Alone.{Held, Pending, framed}
use Rattle.mdf_code.specs.Frames.{Around, Frame, Next, Goes, Spends, Stops, Calls, Creates, Needs, Replies, Strays}
use Rattle.mdf_code.specs.Images.{is_image, passes}
use Rattle.mdf_code.specs.Parts.{text_at}
use Rattle.mdf_code.specs.Stacks.{given}
use Rattle.mdf_code.specs.Steps.{does, or_strays, step}
use Rattle.mdf_code.specs.Told.{Alone, Beaten, Beats, Called, CanBeTold, Gave, Halt, HaltsNext, Learnt, Named, Stands, Stood, Told, after, around_start, behind, first, most_turns, run, runs_on, told_at}
use Rattle.mdf_code.proofs.Ending.{all_ways_pass, ways_pass}
use Rattle.mdf_code.proofs.OneHalt.{behind_kept, runs_on_kept}
use Rattle.mdf_code.proofs.Passing.{all_passing}
use Rattle.mdf_code.proofs.WaysOn.{Moves, OnWay, step_moves}

-- ---- runs

-- what a frame of an image runs with
record Running : Type 0 where
  knows : ℕ → Arg
  x : Around
  image : is_image x.image ≡ true
  quantum : ℕ

-- some steps are enough
record Halts (r : Running) (turns : ℕ) (f : Frame Held) : Type 0 where
  steps : ℕ
  stood : Stood
  is : run steps r.knows r.x r.quantum turns f ≡ Some stood

-- with so many turns left at most
record HasLeft (r : Running) (left turns : ℕ) : Type 0 where
  some : turns < r.quantum
  most : r.quantum ≤ turns + left

abbrev HaltsBelow : Running → ℕ → Type 0
HaltsBelow r left = (turns : ℕ) (f : Frame Held) → HasLeft r left turns → Halts r turns f

-- with fewer callers, at any place
abbrev HaltsFewer : Running → (left callers : ℕ) → Type 0
HaltsFewer r left callers = (turns : ℕ) (f : Frame Held) → HasLeft r (suc left) turns → length f.callers < callers → Halts r turns f

-- with so many callers, where each way on passes within so many instructions
abbrev HaltsWithin : Running → (left callers k : ℕ) → Type 0
HaltsWithin r left callers k =
    (turns : ℕ) (f : Frame Held) → HasLeft r (suc left) turns → length f.callers ≤ callers → passes (text_at r.x.image f.code) k f.place ≡ true → Halts r turns f

abbrev HaltsShorter : Running → (left callers k : ℕ) → Type 0
HaltsShorter r left callers zero = Unit {0}
HaltsShorter r left callers (suc k) = HaltsWithin r left callers k

-- on a way that the instruction leads to
on_way : (r : Running) (left callers k : ℕ) → HaltsShorter r left callers k → (turns : ℕ) (f g : Frame Held) (i : Instr) → HasLeft r (suc left) turns → length f.callers ≤ callers →
    all_ways_pass k (text_at r.x.image f.code) i f.place → OnWay i f g → Halts r turns g
on_way r left callers zero shorter turns f g i has few passing way = absurd (cc (way.leads (λ _. false) passing))
on_way r left callers (suc k) shorter turns f g i has few passing way =
    shorter turns g has (subst (λ l. length l ≤ callers) (sym way.callers) few)
    (subst (λ code. passes (text_at r.x.image code) k g.place ≡ true) (sym way.code) (way.leads (passes (text_at r.x.image f.code) k) passing))

-- where the step leads to comes to a halt
record AfterHalts (r : Running) (turns : ℕ) (next : Next Held) : Type 0 where
  steps : ℕ
  stood : Stood
  is : after (run steps r.knows r.x r.quantum) r.quantum turns next ≡ Some stood

goes_halts : (r : Running) (turns : ℕ) (g : Frame Held) → Halts r turns g → AfterHalts r turns (Goes g)
goes_halts r turns g h = record { steps = h.steps; stood = h.stood; is = h.is }

spends_halts : (r : Running) (left turns : ℕ) (g : Frame Held) → HaltsBelow r left → HasLeft r (suc left) turns → AfterHalts r turns (Spends g)
spends_halts r left turns g below has = by_test (turns + 1 == r.quantum) refl where
  beaten : Stood
  beaten = record { halt = Beats; turns = turns + 1; frame = g }

  by_test : (t : Bool) → turns + 1 == r.quantum ≡ t → AfterHalts r turns (Spends g)
  by_test true is = record { steps = 0; stood = beaten; is = ap (λ (t : Bool). cond t (Some beaten) (run 0 r.knows r.x r.quantum (turns + 1) g)) is }
  by_test false is =
      let other = eqb-false (turns + 1) r.quantum is in let some = has.some in let most = has.most in
      let h = below (turns + 1) g (record { some = omega (arith, other, some); most = omega (arith, most) }) in
      record { steps = h.steps; stood = h.stood; is = ap (λ (t : Bool). cond t (Some beaten) (run h.steps r.knows r.x r.quantum (turns + 1) g)) is ∙ h.is }

one_step : (r : Running) (left callers k : ℕ) → HaltsBelow r left → HaltsFewer r left callers → HaltsShorter r left callers k → HaltsWithin r left callers k
one_step r left callers k below fewer shorter turns f has few passing = by_instruction (slice_get (text_at r.x.image f.code) f.place) refl where
  stepped : (next : Next Held) → step (framed r.knows) r.x f ≡ next → AfterHalts r turns next → Halts r turns f
  stepped next is h = record { steps = suc h.steps; stood = h.stood; is = ap (after (run h.steps r.knows r.x r.quantum) r.quantum turns) is ∙ h.is }

  by_next : (i : Instr) → all_ways_pass k (text_at r.x.image f.code) i f.place → (next : Next Held) → Moves i f next → AfterHalts r turns next
  by_next i ways (Goes g) (inl way) = goes_halts r turns g (on_way r left callers k shorter turns f g i has few ways way)
  by_next i ways (Goes g) (inr back) = goes_halts r turns g (fewer turns g has (omega (arith, few, back)))
  by_next i ways (Spends g) moves = spends_halts r left turns g below has
  by_next i ways (Stops stop g) moves = record { steps = 0; stood = record { halt = Stands stop; turns = turns; frame = g }; is = refl }

  by_instruction : (o : Option Instr) → slice_get (text_at r.x.image f.code) f.place ≡ o → Halts r turns f
  by_instruction None is =
      stepped (Stops Strays f) (ap (λ (o : Option Instr). or_strays f (given o (λ i. does (framed r.knows) r.x i f))) is)
      (record { steps = 0; stood = record { halt = Stands Strays; turns = turns; frame = f }; is = refl })
  by_instruction (Some i) is =
      stepped (step (framed r.knows) r.x f) refl (by_next i (ways_pass k (text_at r.x.image f.code) i f.place is passing) (step (framed r.knows) r.x f) (step_moves (framed r.knows) r.x f i is))

halts_within : (r : Running) (left callers k : ℕ) → HaltsBelow r left → HaltsFewer r left callers → HaltsWithin r left callers k
halts_within r left callers zero below fewer = one_step r left callers zero below fewer tt
halts_within r left callers (suc k) below fewer = one_step r left callers (suc k) below fewer (halts_within r left callers k below fewer)

halts_fewer : (r : Running) (left : ℕ) → HaltsBelow r left → (callers : ℕ) → HaltsFewer r left callers
halts_fewer r left below zero turns f has few = absurd (omega (arith, few))
halts_fewer r left below (suc callers) turns f has few =
    halts_within r left callers (length (text_at r.x.image f.code)) below (halts_fewer r left below callers) turns f has (omega (arith, few)) (all_passing r.x.image r.image f.code f.place)

halts_below : (r : Running) (left : ℕ) → HaltsBelow r left
halts_below r zero turns f has = let some = has.some in let most = has.most in absurd (omega (arith, some, most))
halts_below r (suc left) turns f has = halts_fewer r left (halts_below r left) (suc (length f.callers)) turns f has (omega arith)

-- ---- behind what was told

halts_on : (image : RawImage) (start : BodyStart) (alone : Alone) → is_image image ≡ true → (steps : ℕ) × (stood : Stood) × (runs_on steps image start alone ≡ Some stood)
halts_on image start alone is =
    let h = halts_below (record { knows = alone.knows; x = around_start image start; image = is; quantum = most_turns }) most_turns 0 alone.frame (record { some = omega arith; most = omega arith }) in
    (h.steps, h.stood, h.is)

halts_behind : (image : RawImage) (start : BodyStart) (told : List Told) (k : ℕ) (alone : Alone) → is_image image ≡ true → behind k image start told ≡ Some alone → (stood : Stood) × HaltsNext image start told stood
halts_behind image start told k alone is here =
    let h = halts_on image start alone is in (
      h.1,
      record {
        steps = k + h.0;
        within = ap (λ (o : Option Alone). given o (runs_on (k + h.0) image start)) (behind_kept k (k + h.0) (omega arith) image start told alone here)
            ∙ runs_on_kept h.0 (k + h.0) (omega arith) image start alone h.1 h.2;
      },
    )

pub halts_first : (image : RawImage) (start : BodyStart) → is_image image ≡ true → (stood : Stood) × HaltsNext image start [] stood
halts_first image start is = halts_behind image start [] 0 (first image start) is refl

-- what can be told is told
is_told : (image : RawImage) (a : Alone) (f : Frame Held) (halt : Halt) (t : Told) → CanBeTold halt t → (next : Alone) × (told_at image a f halt t ≡ Some next)
is_told image a f (Stands (Calls member object arguments)) Called can = (_, refl)
is_told image a f (Stands (Needs (Pending result))) (Learnt known) can = (_, refl)
is_told image a f (Stands (Creates class)) (Named object) can = (_, refl)
is_told image a f (Stands (Replies value)) Gave can = (_, refl)
is_told image a f Beats Beaten can = (_, refl)
is_told image a f halt t can = absurd can

pub halts_on_told : (image : RawImage) (start : BodyStart) (told : List Told) (stood : Stood) (t : Told) → is_image image ≡ true → HaltsNext image start told stood → CanBeTold stood.halt t → (next : Stood) × HaltsNext image start (t ∷ told) next
halts_on_told image start told stood t is halts can = by_behind (behind halts.steps image start told) refl halts.within where
  by_behind : (o : Option Alone) → behind halts.steps image start told ≡ o → given o (runs_on halts.steps image start) ≡ Some stood → (next : Stood) × HaltsNext image start (t ∷ told) next
  by_behind None none h = absurd (cc h)
  by_behind (Some a) some h =
      let tells = is_told image a stood.frame stood.halt t can in
      halts_behind image start (t ∷ told) halts.steps tells.0 is
      (ap (λ (o : Option Alone). given o (λ a. given (runs_on halts.steps image start a) (λ stood. told_at image a stood.frame stood.halt t))) some
      ∙ (ap (λ (o : Option Stood). given o (λ stood. told_at image a stood.frame stood.halt t)) h ∙ tells.1))
