-- The code of an image comes to an end, from each start and with each allowance of turns.
use Rattle.std.proofs.Common.{◌≡◌, ◌≤◌, ◌<◌, ◌+◌, ℕ, zero, suc, nat_lt, Bool, true, false, List, length, Option, Some, None, ℤ, cond, flat_map, refl, sym, ap, ◌∙◌, subst, arith, inl, inr}
use Rattle.std.proofs.lemmas.Bool.{ltb-true}
use Rattle.std.specs.FinMap.{FinMap}
use Rattle.std.specs.List.{list_all, slice_get}
use Rattle.std.specs.Option.{option_map}
use Rattle.std.specs.Ordering.{nat_cmp}
use Rattle.mpl_value.specs.declared.body.Arg.{Arg}
use Rattle.mpl_value.specs.declared.body.BodyEnd.{BodyEnd}
use Rattle.mpl_value.specs.declared.body.BodyEnd.TheVariants as end
use Rattle.mpl_value.specs.declared.body.BodyStart.{BodyStart}
use Rattle.mpl_value.specs.declared.body.Yield.{Yield}
use Rattle.mpl_value.specs.declared.known.Known.{Known}
use Rattle.mpl_value.specs.declared.known.Trap.{Trap}
use Rattle.mpl_value.specs.CallAnswers.{any_unknown, arg_of_result, known_words, leftmost_trap}
use Rattle.mpl_value.specs.Results.{result_of}
use Rattle.mdf_code.specs.declared.instr.Instr.{Instr}
use Rattle.mdf_code.specs.declared.raw.RawImage.{RawImage}
use Rattle.mdf_code.specs.Frames.{Frame, Next, Goes, Spends, Stops, Stop, Calls, Creates, Ends, Needs, Replies, Strays, Traps}
use Rattle.mdf_code.specs.Images.{all_ways, is_image, passes, ways_on}
use Rattle.mdf_code.specs.Parts.{text_at}
use Rattle.mdf_code.specs.Stacks.{given}
use Rattle.mdf_code.specs.Steps.{does, or_strays, step}
use Rattle.mdf_code.specs.Yields.{Body, Ended, Runs, Setting, act, around, at_stop, called_in_place, calls, comes_back, comes_back_at, creates, ends, exec, goes_on_answered, in_place, member_is_regular, regular_call, regular_setting, regular_start, replies_of, setting_of, spends, start_body, unless_trapped, with_frame, yield_at, Yields}
use Rattle.mdf_code.proofs.CountedSteps.{IsCounted, exec_counted, spends_counted}
use Rattle.mdf_code.proofs.MoreSteps.{at, exec_kept, spends_kept}
use Rattle.mdf_code.proofs.Passing.{all_passing}
use Rattle.mdf_code.proofs.WaysOn.{Moves, OnWay, step_moves}

-- some steps are enough
record HaltsAt (go : Runs → Option Ended) : Type 0 where
  steps : ℕ
  ended : Ended
  is : go (exec steps) ≡ Some ended

abbrev Halts : Setting → Body → Type 0
Halts s b = HaltsAt (λ again. again s b)

-- a body of an image with so many turns, and how many it has left at most
record IsReady (n left : ℕ) (s : Setting) (b : Body) : Type 0 where
  image : is_image s.image ≡ true
  within : b.turns ≤ n
  below : n < b.turns + left

-- bodies with fewer turns left halt
abbrev HaltsBelow : ℕ → ℕ → Type 0
HaltsBelow n left = (s : Setting) (b : Body) → IsReady n left s b → Halts (at n s) b

at_once : (go : Runs → Option Ended) (e : Ended) → go (exec 0) ≡ Some e → HaltsAt go
at_once go e h = record { steps = 0; ended = e; is = h }

-- ---- turns

spends_halts : (n : ℕ) (s : Setting) (b : Body) (next : Runs → Body → Option Ended) → (b.turns + 1 ≤ n → HaltsAt (λ again. next again (record b { turns = b.turns + 1 }))) → HaltsAt (λ again. spends (at n s) b (next again))
spends_halts n s b next halts = by_test (nat_lt b.turns n) refl where
  going : Body
  going = record b { turns = b.turns + 1 }

  by_test : (t : Bool) → nat_lt b.turns n ≡ t → HaltsAt (λ again. spends (at n s) b (next again))
  by_test true is =
      let h = halts (let below = ltb-true b.turns n is in omega arith) in
      record { steps = h.steps; ended = h.ended; is = ap (λ (t : Bool). cond t (next (exec h.steps) going) (ends end.Spent going)) is ∙ h.is }
  by_test false is = at_once _ (record { body = going; end = end.Spent }) (ap (λ (t : Bool). cond t (next (exec 0) going) (ends end.Spent going)) is)

branch_halts : (t : Bool) (first second : Runs → Option Ended) → HaltsAt first → HaltsAt second → HaltsAt (λ again. cond t (first again) (second again))
branch_halts true first second h j = h
branch_halts false first second h j = j

-- ---- calls

in_place_halts : (n left : ℕ) → HaltsBelow n left → (s : Setting) (member : ℕ) (arguments : List (List ℤ)) (b : Body) → IsReady n left s b →
    HaltsAt (λ again. called_in_place again (at n s) member arguments b)
in_place_halts n left below s member arguments b ready = by_end called.ended.end refl where
  start : Body
  start = start_body s.image (regular_start member (flat_map (λ words. words) arguments)) b.turns

  called : HaltsAt (λ again. spends (at n s) start (again (regular_setting (at n s) member)))
  called = spends_halts n s start (λ again. again (regular_setting (at n s) member))
      (λ within. below (regular_setting s member) _ (record { image = ready.image; within = within; below = omega (arith, ready.below) }))

  counted : IsCounted b.turns n called.ended
  counted = spends_counted b.turns n (at n s) start called.ended (exec called.steps (regular_setting (at n s) member)) refl (omega arith, ready.within)
      (λ c between g. exec_counted b.turns n called.steps (regular_setting (at n s) member) c called.ended refl between g) called.is

  -- with more steps too
  again_called : (more : ℕ) → called.steps ≤ more → spends (at n s) start (exec more (regular_setting (at n s) member)) ≡ Some called.ended
  again_called more le =
      spends_kept n n (omega arith) s start called.ended (exec called.steps (regular_setting (at n s) member)) (exec more (regular_setting (at n s) member))
      (λ c g. exec_kept n n (omega arith) called.steps more le (regular_setting s member) c called.ended g (λ _. refl)) called.is (λ _. refl)

  back : Body
  back = record b { turns = called.ended.body.turns }

  goes_on : (x : BodyEnd) → called.ended.end ≡ x → (called.ended.end ≡ end.Spent → ⊥) →
      ((again : Runs) → comes_back_at again (at n s) member b called.ended x ≡ goes_on_answered again (at n s) member back (arg_of_result called.ended.body.result)) →
      HaltsAt (λ again. called_in_place again (at n s) member arguments b)
  goes_on x is not_spent same =
      let rest = below s _ (record { image = ready.image; within = counted.within not_spent; below = omega (arith, ready.below, counted.above) }) in
      let more : ℕ = called.steps + rest.steps in
      record {
        steps = more;
        ended = rest.ended;
        is =
            ap (comes_back (exec more) (at n s) member b) (again_called more (omega arith))
            ∙ (ap (comes_back_at (exec more) (at n s) member b called.ended) is
            ∙ (same (exec more)
            ∙ exec_kept n n (omega arith) rest.steps more (omega arith) s _ rest.ended rest.is (λ _. refl)));
      }

  by_end : (x : BodyEnd) → called.ended.end ≡ x → HaltsAt (λ again. called_in_place again (at n s) member arguments b)
  by_end end.Done is = goes_on end.Done is (λ spent. absurd (cc (is, spent))) (λ again. refl)
  by_end (end.Trap t) is = goes_on (end.Trap t) is (λ spent. absurd (cc (is, spent))) (λ again. refl)
  by_end end.Waits is = goes_on end.Waits is (λ spent. absurd (cc (is, spent))) (λ again. refl)
  by_end end.Spent is = record {
    steps = called.steps;
    ended = record { body = back; end = end.Spent };
    is = ap (comes_back (exec called.steps) (at n s) member b) called.is ∙ ap (comes_back_at (exec called.steps) (at n s) member b called.ended) is;
  }

unless_trapped_halts : (n left : ℕ) → HaltsBelow n left → (s : Setting) (member : ℕ) (b : Body) (t : Option Trap) (body : Runs → Option Ended) → IsReady n left s b → HaltsAt body →
    HaltsAt (λ again. unless_trapped again (at n s) member b t (body again))
unless_trapped_halts n left below s member b None body ready h = h
unless_trapped_halts n left below s member b (Some t) body ready h = below s _ (record { image = ready.image; within = ready.within; below = ready.below })

regular_halts : (n left : ℕ) → HaltsBelow n left → (s : Setting) (member : ℕ) (arguments : List Arg) (answers : Option (ℕ → Arg)) (b : Body) → IsReady n left s b →
    HaltsAt (λ again. regular_call again (at n s) member arguments answers b)
regular_halts n left below s member arguments (Some answers) b ready = below s _ (record { image = ready.image; within = ready.within; below = ready.below })
regular_halts n left below s member arguments None b ready =
    branch_halts (any_unknown arguments) _ _ (below s _ (record { image = ready.image; within = ready.within; below = ready.below }))
    (unless_trapped_halts n left below s member b (leftmost_trap arguments) _ ready (in_place_halts n left below s member (known_words arguments) b ready))

calls_halt : (n left : ℕ) → HaltsBelow n left → (s : Setting) (member : ℕ) (object : ℤ) (arguments : List Arg) (b : Body) → IsReady n left s b →
    HaltsAt (λ again. calls again (at n s) member object arguments b)
calls_halt n left below s member object arguments b ready =
    branch_halts (member_is_regular s.image member) _ _
    (regular_halts n left below s member arguments s.answers (record b { sent = b.sent + 1 }) (record { image = ready.image; within = ready.within; below = ready.below }))
    (below s _ (record { image = ready.image; within = ready.within; below = ready.below }))

-- ---- one step

-- it has fewer turns left by one
fewer_left : {n left : ℕ} {s : Setting} {b : Body} (f : Frame Arg) → IsReady n (suc left) s b → b.turns + 1 ≤ n → IsReady n left s (record b { frame = f; turns = b.turns + 1 })
fewer_left f ready within = record { image = ready.image; within = within; below = omega (arith, ready.below) }

-- a stop behind which the frame doesn't go on without a turn
stop_halts : (n left : ℕ) → HaltsBelow n left → (s : Setting) (b : Body) (f : Frame Arg) (stop : Stop Arg) → IsReady n (suc left) s b →
    ((value : Arg) → stop ≡ Replies value → Halts (at n s) (record b { frame = f; result = result_of value })) → HaltsAt (λ again. at_stop again (at n s) (with_frame f b) stop)
stop_halts n left below s b f (Calls member object arguments) ready replied =
    spends_halts n s (with_frame f b) (λ again c. calls again (at n s) member object arguments c) (λ within. calls_halt n left below s member object arguments _ (fewer_left f ready within))
stop_halts n left below s b f (Needs value) ready replied = at_once _ _ refl
stop_halts n left below s b f (Replies value) ready replied = replied value refl
stop_halts n left below s b f (Creates class) ready replied =
    spends_halts n s (with_frame f b) (λ again c. creates again (at n s) class c)
    (λ within. below s _ (record { image = ready.image; within = within; below = omega (arith, ready.below) }))
stop_halts n left below s b f (Ends line) ready replied = at_once _ _ refl
stop_halts n left below s b f Strays ready replied = at_once _ _ refl
stop_halts n left below s b f (Traps t) ready replied = at_once _ _ refl

-- with fewer callers, at any place
abbrev HaltsFewer : (n left callers : ℕ) → Type 0
HaltsFewer n left callers = (s : Setting) (b : Body) → IsReady n (suc left) s b → length b.frame.callers < callers → Halts (at n s) b

-- with so many callers, where each way on passes within so many instructions
abbrev HaltsWithin : (n left callers k : ℕ) → Type 0
HaltsWithin n left callers k =
    (s : Setting) (b : Body) → IsReady n (suc left) s b → length b.frame.callers ≤ callers → passes (text_at s.image b.frame.code) k b.frame.place ≡ true → Halts (at n s) b

abbrev HaltsShorter : (n left callers k : ℕ) → Type 0
HaltsShorter n left callers zero = Unit {0}
HaltsShorter n left callers (suc k) = HaltsWithin n left callers k

-- the ways on from an instruction pass within fewer instructions
abbrev pub all_ways_pass : ℕ → List Instr → Instr → ℕ → Type 0
all_ways_pass zero code i place = list_all (λ _. false) (ways_on i place) ≡ true
all_ways_pass (suc k) code i place = list_all (passes code k) (ways_on i place) ≡ true

pub ways_pass : (k : ℕ) (code : List Instr) (i : Instr) (place : ℕ) → slice_get code place ≡ Some i → passes code k place ≡ true → all_ways_pass k code i place
ways_pass zero code i place is h = sym (ap (λ (o : Option Instr). all_ways (λ _. false) o place) is) ∙ h
ways_pass (suc k) code i place is h = sym (ap (λ (o : Option Instr). all_ways (passes code k) o place) is) ∙ h

-- on a way that the instruction leads to
on_way : (n left callers k : ℕ) → HaltsShorter n left callers k → (s : Setting) (b c : Body) (i : Instr) → IsReady n (suc left) s c → length b.frame.callers ≤ callers →
    all_ways_pass k (text_at s.image b.frame.code) i b.frame.place → OnWay i b.frame c.frame → Halts (at n s) c
on_way n left callers zero shorter s b c i ready few passing way = absurd (cc (way.leads (λ _. false) passing))
on_way n left callers (suc k) shorter s b c i ready few passing way =
    shorter s c ready (subst (λ l. length l ≤ callers) (sym way.callers) few)
    (subst (λ code. passes (text_at s.image code) k c.frame.place ≡ true) (sym way.code) (way.leads (passes (text_at s.image b.frame.code) k) passing))

one_step : (n left callers k : ℕ) → HaltsBelow n left → HaltsFewer n left callers → HaltsShorter n left callers k → HaltsWithin n left callers k
one_step n left callers k below fewer shorter s b ready few passing = by_instruction (slice_get (text_at s.image b.frame.code) b.frame.place) refl where
  stepped : (next : Next Arg) → step in_place (around s) b.frame ≡ next → HaltsAt (λ again. act again (at n s) b next) → Halts (at n s) b
  stepped next is h = record { steps = suc h.steps; ended = h.ended; is = ap (act (exec h.steps) (at n s) b) is ∙ h.is }

  by_next : (i : Instr) → all_ways_pass k (text_at s.image b.frame.code) i b.frame.place → (next : Next Arg) → Moves i b.frame next → HaltsAt (λ again. act again (at n s) b next)
  by_next i ways (Goes g) (inl way) = on_way n left callers k shorter s b (with_frame g b) i (record { image = ready.image; within = ready.within; below = ready.below }) few ways way
  by_next i ways (Goes g) (inr back) = fewer s (with_frame g b) (record { image = ready.image; within = ready.within; below = ready.below }) (omega (arith, few, back))
  by_next i ways (Spends g) moves =
      spends_halts n s (with_frame g b) (λ again. again (at n s)) (λ within. below s _ (fewer_left g ready within))
  by_next i ways (Stops (Replies value) g) way = on_way n left callers k shorter s b (record b { frame = g; result = result_of value }) i (record { image = ready.image; within = ready.within; below = ready.below }) few ways way
  by_next i ways (Stops (Calls member object arguments) g) moves = stop_halts n left below s b g (Calls member object arguments) ready (λ value e. absurd (cc e))
  by_next i ways (Stops (Needs value) g) moves = at_once _ _ refl
  by_next i ways (Stops (Creates class) g) moves = stop_halts n left below s b g (Creates class) ready (λ value e. absurd (cc e))
  by_next i ways (Stops (Ends line) g) moves = at_once _ _ refl
  by_next i ways (Stops Strays g) moves = at_once _ _ refl
  by_next i ways (Stops (Traps t) g) moves = at_once _ _ refl

  by_instruction : (o : Option Instr) → slice_get (text_at s.image b.frame.code) b.frame.place ≡ o → Halts (at n s) b
  by_instruction None is =
      stepped (Stops Strays b.frame) (ap (λ (o : Option Instr). or_strays b.frame (given o (λ i. does in_place (around s) i b.frame))) is) (at_once _ _ refl)
  by_instruction (Some i) is =
      stepped (step in_place (around s) b.frame) refl (by_next i (ways_pass k (text_at s.image b.frame.code) i b.frame.place is passing) (step in_place (around s) b.frame) (step_moves in_place (around s) b.frame i is))

halts_within : (n left callers k : ℕ) → HaltsBelow n left → HaltsFewer n left callers → HaltsWithin n left callers k
halts_within n left callers zero below fewer = one_step n left callers zero below fewer tt
halts_within n left callers (suc k) below fewer = one_step n left callers (suc k) below fewer (halts_within n left callers k below fewer)

halts_fewer : (n left : ℕ) → HaltsBelow n left → (callers : ℕ) → HaltsFewer n left callers
halts_fewer n left below zero s b ready few = absurd (omega (arith, few))
halts_fewer n left below (suc callers) s b ready few =
    halts_within n left callers (length (text_at s.image b.frame.code)) below (halts_fewer n left below callers) s b ready (omega (arith, few)) (all_passing s.image ready.image b.frame.code b.frame.place)

halts_below : (n left : ℕ) → HaltsBelow n left
halts_below n zero s b ready = absurd (omega (arith, ready.below, ready.within))
halts_below n (suc left) s b ready = halts_fewer n left (halts_below n left) (suc (length b.frame.callers)) s b ready (omega arith)

-- ---- yields

pub comes_to_an_end : (image : RawImage) (start : BodyStart) (replies : FinMap nat_cmp Known) (n : ℕ) → is_image image ≡ true → (y : Yield) × Yields image start replies n y
comes_to_an_end image start replies n h =
    let s : Setting = setting_of image start (replies_of replies) n in
    let ran : HaltsAt (λ again. spends (at n s) (start_body image start 0) (again (at n s))) =
    spends_halts n s (start_body image start 0) (λ again. again (at n s)) (λ within. halts_below n (suc n) s _ (record { image = h; within = within; below = omega arith })) in
    (yield_at ran.ended, record { steps = ran.steps; within = ap (option_map yield_at) ran.is })
