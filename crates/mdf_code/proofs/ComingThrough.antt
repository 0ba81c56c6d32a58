-- What a body yields in place, where it isn't spent, its frame alone comes through to.
use Rattle.std.proofs.Common.{◌≡◌, ◌≢◌, ◌≤◌, ◌<◌, ◌+◌, ◌==◌, ℕ, zero, suc, Bool, true, false, cond, List, [], ◌∷◌, map, length, Option, Some, None, ℤ, refl, sym, ap, ◌∙◌, subst, arith}
use Rattle.std.specs.FinMap.{FinMap}
use Rattle.std.specs.Ordering.{nat_cmp}
use Rattle.mpl_value.specs.declared.body.Arg.{Arg}
use Rattle.mpl_value.specs.declared.body.Arg.TheVariants.{Know, Trapped, Unknown}
use Rattle.mpl_value.specs.declared.body.BodyEnd.{BodyEnd}
use Rattle.mpl_value.specs.declared.body.BodyEnd.TheVariants as end
use Rattle.mpl_value.specs.declared.body.BodyResult.{BodyResult}
use Rattle.mpl_value.specs.declared.body.BodyStart.{BodyStart}
use Rattle.mpl_value.specs.declared.body.CallMade.{CallMade}
use Rattle.mpl_value.specs.declared.body.Yield.{Yield}
use Rattle.mpl_value.specs.declared.known.Known.{Known}
use Rattle.mpl_value.specs.declared.known.Known.TheVariants as known
use Rattle.mpl_value.specs.declared.known.Trap.{Trap}
use Rattle.mpl_value.specs.CallAnswers.{any_unknown, arg_of_reply, arg_of_result, known_words, leftmost_trap}
use Rattle.mpl_value.specs.Results.{result_of}
use Rattle.mpl_value.specs.Words.{object_word}
use Rattle.mdf_code.specs.declared.raw.RawImage.{RawImage}
use Rattle.mdf_code.specs.Alone.{Held, Words, Pending, frame_seen, framed, next_seen, seen_by, values_seen}
use Rattle.mdf_code.specs.Frames.{Frame, Next, Goes, Spends, Stops, Stop, Calls, Creates, Ends, Needs, Replies, Strays, Traps}
use Rattle.mdf_code.specs.Right.{Account, EndsAt, IsCalled, IsRightAt, Right, StraysAsInPlace, Through, UnlessTrapped, UnlessUnknown, opening, with_answer, with_call, with_creation, with_turns, yield_by}
use Rattle.mdf_code.specs.Parts.{sizes_at, variables_holding}
use Rattle.mdf_code.specs.Steps.{step}
use Rattle.mdf_code.specs.Told.{Beaten, Beats, Called, Gave, Learnt, Named, Stands, Stood, Told, around_start, learns, most_turns}
use Rattle.mdf_code.specs.Yields.{Body, Ended, Setting, Yields, act, answer, answered, called_in_place, calls, code_of_member, comes_back, comes_back_at, creates, ends, exec, formals_at, goes_on_answered, in_place, made, member_is_regular, missed_at, named, or_missed, persistent_call, regular_call, replies_of, result_at_trap, run_of, setting_of, start_body, start_frame, unless_trapped, yield_at}
use Rattle.mdf_code.proofs.Midway.{Halted, Midway, IsSure, answer_seen, beats_midway, begins, body_of, called_midway, fair_next, goes_midway, halts_next, learns_it, learnt_midway, needing_next, spends_midway, stops_midway, sure_next, tells}
use Rattle.mdf_code.proofs.NeedingSteps.{NeedsNone}
use Rattle.mdf_code.proofs.OwnRuns.{came_to, own_yield, spends_goes}
use Rattle.mdf_code.proofs.SameRuns.{alone_counted, called_alone}
use Rattle.mdf_code.proofs.SeenSteps.{known_words_seen}
use Rattle.mdf_code.proofs.TwoRuns.{ended_is}

-- ---- a run in place, and where it and its frame are

-- a body that comes to an end, which isn't spent
record Case : Type 0 where
  image : RawImage
  start : BodyStart
  replies : FinMap nat_cmp Known
  n : ℕ
  e : Ended
  unspent : e.end ≢ end.Spent
  steady : StraysAsInPlace image start replies

abbrev setting : Case → Setting
setting c = setting_of c.image c.start (replies_of c.replies) c.n

abbrev Comes : Case → Type 0
Comes c = Through c.image c.start c.replies (yield_at c.e)

-- a frame alone that was told what is right, with the turns of its body in all
record Spot (c : Case) : Type 0 where
  told : List Told
  a : Account
  turns : ℕ
  all : ℕ
  f : Frame Held
  right : Right c.image c.start c.replies told a
  midway : Midway c.image c.start told a turns f
  sum : a.turns + turns ≡ all
  within : all ≤ c.n

-- from each such place the body comes to its end within so many steps
abbrev AllCome : Case → ℕ → Type 0
AllCome c k = (p : Spot c) → exec k (setting c) (body_of p.a p.all p.f) ≡ Some c.e → Comes c

abbrev Steps : {c : Case} → Spot c → Next Held → Type 0
Steps {c} p next = step (framed p.midway.alone.knows) (around_start c.image c.start) p.f ≡ next

abbrev HaltedAt : {c : Case} → Spot c → Stood → Type 0
HaltedAt {c} p stood = Halted c.image c.start p.told p.a stood

abbrev stood_at : {c : Case} → Spot c → Stop Held → Frame Held → Stood
stood_at p stop g = record { halt = Stands stop; turns = p.turns; frame = g }

-- ---- ends

same_yield : (c : Case) (p : Spot c) (g : Frame Held) (given : BodyResult) (x : BodyEnd) (strayed : Bool) → ends x (record (body_of p.a p.all g) { result = given; strayed = strayed }) ≡ Some c.e →
    yield_by (with_turns p.turns p.a) g given x ≡ yield_at c.e
same_yield c p g given x strayed h =
    ap (λ (turns : ℕ). record (yield_by p.a g given x) { turns = turns }) p.sum ∙ ap yield_at (ended_is x (record (body_of p.a p.all g) { result = given; strayed = strayed }) c.e h)

ends_here : (c : Case) (p : Spot c) (stop : Stop Held) (g : Frame Held) → Steps p (Stops stop g) → EndsAt c.image c.start (with_turns p.turns p.a) g (Stands stop) (yield_at c.e) → Comes c
ends_here c p stop g is at_end = record {
  told = p.told;
  account = p.a;
  right = p.right;
  stood = stood_at p stop g;
  halts = halts_next c.image c.start p.told p.a (stood_at p stop g) (stops_midway c.image c.start p.told p.a p.turns p.f p.midway stop g is);
  ends = at_end;
}

-- ---- one more thing told

goes_on : (c : Case) (k : ℕ) → AllCome c k → (p : Spot c) (stood : Stood) → HaltedAt p stood → (t : Told) (b : Account) → IsRightAt c.image c.start (replies_of c.replies) (with_turns stood.turns p.a) stood.halt t b →
    (g : Frame Held) → Midway c.image c.start (t ∷ p.told) b 0 g → (all : ℕ) → b.turns ≡ all → all ≤ c.n → exec k (setting c) (body_of b all g) ≡ Some c.e → Comes c
goes_on c k again p stood h t b right g midway all sum within j = again (record {
  told = t ∷ p.told;
  a = b;
  turns = 0;
  all = all;
  f = g;
  right = record { a = p.a; was = p.right; stood = stood; halts = halts_next c.image c.start p.told p.a stood h; is = right };
  midway = midway;
  sum = omega (arith, sum);
  within = within;
}) j

-- ---- calls

-- a call of a frame alone that stops at it
record CallAt (c : Case) (p : Spot c) : Type 0 where
  member : ℕ
  object : ℤ
  arguments : List Held
  g : Frame Held
  is : Steps p (Stops (Calls member object arguments) g)

abbrev seen_arguments : {c : Case} {p : Spot c} → CallAt c p → List Arg
seen_arguments {c} {p} l = values_seen (seen_by p.a.answers) l.arguments

-- what the body did up to the call and its turn
abbrev before_call : {c : Case} → Spot c → Account
before_call p = with_turns 1 (with_turns p.turns p.a)

abbrev RightCall : (c : Case) (p : Spot c) → CallAt c p → Account → Type 0
RightCall c p l b = IsRightAt c.image c.start (replies_of c.replies) (with_turns p.turns p.a) (Stands (Calls l.member l.object l.arguments)) Called b

-- the body in place goes on with the answer
abbrev called_body : {c : Case} (p : Spot c) → CallAt c p → List CallMade → ℕ → Body
called_body p l made all = record (body_of p.a all l.g) { sent = p.a.sent + 1; calls = made }

answered_on : (c : Case) (k : ℕ) → AllCome c k → (p : Spot c) (l : CallAt c p) (value : Arg) (made : List CallMade) (turns all : ℕ) → RightCall c p l (with_answer value (record p.a { calls = made; turns = turns })) → turns ≡ all → all ≤ c.n →
    goes_on_answered (exec k) (setting c) l.member (called_body p l made all) value ≡ Some c.e → Comes c
answered_on c k again p l value made turns all right sum within j =
    let h = stops_midway c.image c.start p.told p.a p.turns p.f p.midway (Calls l.member l.object l.arguments) l.g l.is in
    let b : Account = with_answer value (record p.a { calls = made; turns = turns }) in
    goes_on c k again p (stood_at p (Calls l.member l.object l.arguments) l.g) h Called b right (answered c.image l.member (Pending (h.alone.calls + 1)) l.g)
    (called_midway c.image c.start p.told p.a l.member l.object l.arguments p.turns l.g h made turns value) all sum within
    (ap (λ (frame : Frame Arg). exec k (setting c) (record (called_body p l made all) { frame = frame }))
    (answer_seen c.image l.member p.a.sent h.alone.calls value p.a.answers _ l.g h.made h.has) ∙ j)

-- a member's body in place that comes back
back_on : (c : Case) (k : ℕ) → AllCome c k → (p : Spot c) (l : CallAt c p) → member_is_regular c.image l.member ≡ true → any_unknown (seen_arguments l) ≡ false → leftmost_trap (seen_arguments l) ≡ None → p.all + 1 ≤ c.n →
    called_in_place (exec k) (setting c) l.member (known_words (seen_arguments l)) (called_body p l p.a.calls (p.all + 1)) ≡ Some c.e → Comes c
back_on c k again p l regular known trapped within h = by_call (called_alone (exec k) (setting c) l.member (known_words (seen_arguments l)) caller) refl h where
  caller : Body
  caller = called_body p l p.a.calls (p.all + 1)

  on_unspent : (x : Ended) → called_alone (exec k) (setting c) l.member (known_words (seen_arguments l)) caller ≡ Some x → (x.end ≢ end.Spent) →
      goes_on_answered (exec k) (setting c) l.member (record caller { turns = x.body.turns }) (arg_of_result x.body.result) ≡ Some c.e → Comes c
  on_unspent x is unspent j =
      let own = own_yield k c.n (setting c) l.member (known_words (seen_arguments l)) caller x within is unspent in
      let turns : own.0.body.turns + (p.all + 1) ≡ x.body.turns = ap (λ (y : Ended). y.body.turns) own.2 in
      let result : own.0.body.result ≡ x.body.result = ap (λ (y : Ended). y.body.result) own.2 in
      let sum = p.sum in
      answered_on c k again p l (arg_of_result own.0.body.result) p.a.calls (p.a.turns + p.turns + 1 + own.0.body.turns) x.body.turns
      (subst (IsCalled c.image (replies_of c.replies) l.member l.object (seen_arguments l) (before_call p) _) (sym regular)
      (subst (UnlessUnknown c.image l.member (seen_arguments l) (before_call p) _) (sym known)
      (subst (UnlessTrapped c.image l.member (seen_arguments l) (before_call p) _) (sym trapped) (record { yield = yield_at own.0; own = own.1; is = refl }))))
      (omega (arith, sum, turns)) ((alone_counted 0 c.n k (setting c) l.member (known_words (seen_arguments l)) caller x (omega arith, within) is).within unspent)
      (ap (goes_on_answered (exec k) (setting c) l.member (record caller { turns = x.body.turns })) (ap arg_of_result result) ∙ j)

  by_end : (x : Ended) → called_alone (exec k) (setting c) l.member (known_words (seen_arguments l)) caller ≡ Some x → (y : BodyEnd) → x.end ≡ y → comes_back_at (exec k) (setting c) l.member caller x y ≡ Some c.e → Comes c
  by_end x is end.Done ended j = on_unspent x is (λ spent. absurd (cc (ended, spent))) j
  by_end x is (end.Trap t) ended j = on_unspent x is (λ spent. absurd (cc (ended, spent))) j
  by_end x is end.Waits ended j = on_unspent x is (λ spent. absurd (cc (ended, spent))) j
  by_end x is end.Spent ended j = absurd (c.unspent (sym (ap (λ (y : Ended). y.end) (ended_is end.Spent (record caller { turns = x.body.turns }) c.e j))))

  by_call : (o : Option Ended) → called_alone (exec k) (setting c) l.member (known_words (seen_arguments l)) caller ≡ o → comes_back (exec k) (setting c) l.member caller o ≡ Some c.e → Comes c
  by_call None is j = absurd (cc j)
  by_call (Some x) is j = by_end x is x.end refl j

regular_on : (c : Case) (k : ℕ) → AllCome c k → (p : Spot c) (l : CallAt c p) → member_is_regular c.image l.member ≡ true → p.all + 1 ≤ c.n →
    regular_call (exec k) (setting c) l.member (seen_arguments l) None (called_body p l p.a.calls (p.all + 1)) ≡ Some c.e → Comes c
regular_on c k again p l regular within h = by_test (any_unknown (seen_arguments l)) refl h where
  caller : Body
  caller = called_body p l p.a.calls (p.all + 1)

  after : Arg → Account
  after value = with_answer value (record p.a { turns = p.a.turns + p.turns + 1 })

  right : (value : Arg) → UnlessUnknown c.image l.member (seen_arguments l) (before_call p) (after value) (any_unknown (seen_arguments l)) → RightCall c p l (after value)
  right value is = subst (IsCalled c.image (replies_of c.replies) l.member l.object (seen_arguments l) (before_call p) (after value)) (sym regular) is

  one_more : p.a.turns + p.turns + 1 ≡ p.all + 1
  one_more = ap (λ (turns : ℕ). turns + 1) p.sum

  by_trap : any_unknown (seen_arguments l) ≡ false → (t : Option Trap) → leftmost_trap (seen_arguments l) ≡ t →
      unless_trapped (exec k) (setting c) l.member caller t (called_in_place (exec k) (setting c) l.member (known_words (seen_arguments l)) caller) ≡ Some c.e → Comes c
  by_trap known (Some t) is j =
      answered_on c k again p l (Trapped t) p.a.calls (p.a.turns + p.turns + 1) (p.all + 1)
      (right (Trapped t) (subst (UnlessUnknown c.image l.member (seen_arguments l) (before_call p) (after (Trapped t))) (sym known)
      (subst (UnlessTrapped c.image l.member (seen_arguments l) (before_call p) (after (Trapped t))) (sym is) refl))) one_more within j
  by_trap known None is j = back_on c k again p l regular known is within j

  by_test : (t : Bool) → any_unknown (seen_arguments l) ≡ t → cond t (goes_on_answered (exec k) (setting c) l.member caller Unknown)
      (unless_trapped (exec k) (setting c) l.member caller (leftmost_trap (seen_arguments l)) (called_in_place (exec k) (setting c) l.member (known_words (seen_arguments l)) caller)) ≡ Some c.e → Comes c
  by_test true is j =
      answered_on c k again p l Unknown p.a.calls (p.a.turns + p.turns + 1) (p.all + 1)
      (right Unknown (subst (UnlessUnknown c.image l.member (seen_arguments l) (before_call p) (after Unknown)) (sym is) refl)) one_more within j
  by_test false is j = by_trap is (leftmost_trap (seen_arguments l)) refl j

persistent_on : (c : Case) (k : ℕ) → AllCome c k → (p : Spot c) (l : CallAt c p) → member_is_regular c.image l.member ≡ false → p.all + 1 ≤ c.n →
    persistent_call (exec k) (setting c) l.member l.object (seen_arguments l) (called_body p l p.a.calls (p.all + 1)) ≡ Some c.e → Comes c
persistent_on c k again p l persistent within h =
    answered_on c k again p l (answer (seen_arguments l) (replies_of c.replies (length p.a.calls + 1))) (with_call l.member l.object (seen_arguments l) p.a).calls (p.a.turns + p.turns + 1) (p.all + 1)
    (subst (IsCalled c.image (replies_of c.replies) l.member l.object (seen_arguments l) (before_call p) _) (sym persistent) refl)
    (ap (λ (turns : ℕ). turns + 1) p.sum) within h

calls_on : (c : Case) (k : ℕ) → AllCome c k → (p : Spot c) (l : CallAt c p) → p.all + 1 ≤ c.n →
    calls (exec k) (setting c) l.member l.object (seen_arguments l) (body_of p.a (p.all + 1) l.g) ≡ Some c.e → Comes c
calls_on c k again p l within h = by_test (member_is_regular c.image l.member) refl h where
  by_test : (t : Bool) → member_is_regular c.image l.member ≡ t → cond t (regular_call (exec k) (setting c) l.member (seen_arguments l) None (called_body p l p.a.calls (p.all + 1)))
      (persistent_call (exec k) (setting c) l.member l.object (seen_arguments l) (called_body p l p.a.calls (p.all + 1))) ≡ Some c.e → Comes c
  by_test true is j = regular_on c k again p l is within j
  by_test false is j = persistent_on c k again p l is within j

-- ---- needs

abbrev NeedsOn : {c : Case} → Spot c → Type 0
NeedsOn {c} p = (value : Held) (g : Frame Held) → Steps p (Stops (Needs value) g) → Comes c

-- ---- steps

spends_on : (c : Case) (k : ℕ) → AllCome c k → (p : Spot c) (g : Frame Held) → Steps p (Spends g) → p.all + 1 ≤ c.n → exec k (setting c) (body_of p.a (p.all + 1) g) ≡ Some c.e → Comes c
spends_on c k again p g is within h = by_test (p.turns + 1 == most_turns) refl where
  by_test : (t : Bool) → p.turns + 1 == most_turns ≡ t → Comes c
  by_test false test = again (record {
    told = p.told;
    a = p.a;
    turns = p.turns + 1;
    all = p.all + 1;
    f = g;
    right = p.right;
    midway = spends_midway c.image c.start p.told p.a p.turns p.f p.midway g is test;
    sum = (let sum = p.sum in omega (arith, sum));
    within = within;
  }) h
  by_test true test =
      let halted = beats_midway c.image c.start p.told p.a p.turns p.f p.midway g is test in
      let b : Account = with_turns (p.turns + 1) p.a in
      goes_on c k again p (record { halt = Beats; turns = p.turns + 1; frame = g }) halted Beaten b refl g
      (tells c.image c.start p.told p.a (record { halt = Beats; turns = p.turns + 1; frame = g }) halted Beaten b (record halted.alone { frame = g }) refl halted.made halted.less halted.unmade halted.has)
      (p.all + 1) (let sum = p.sum in omega (arith, sum)) within h

-- the body in place takes the frame's step
step_on : (c : Case) (k : ℕ) → AllCome c k → (p : Spot c) → NeedsOn p → exec (suc k) (setting c) (body_of p.a p.all p.f) ≡ Some c.e → Comes c
step_on c k again p needs h = by_next (step (framed p.midway.alone.knows) (around_start c.image c.start) p.f) refl where
  -- where the step is sure
  acts : (next : Next Held) → Steps p next → IsSure next → act (exec k) (setting c) (body_of p.a p.all p.f) (next_seen (seen_by p.a.answers) next) ≡ Some c.e
  acts next is sure = sym (ap (act (exec k) (setting c) (body_of p.a p.all p.f)) (sure_next c.image c.start p.told p.a p.turns p.f p.midway next is sure)) ∙ h

  by_stop : (stop : Stop Held) (g : Frame Held) → Steps p (Stops stop g) → Comes c
  by_stop (Calls member object arguments) g is =
      let goes = spends_goes c.n (setting c) (body_of p.a p.all g) c.e (calls (exec k) (setting c) member object (values_seen (seen_by p.a.answers) arguments)) (acts (Stops (Calls member object arguments) g) is tt) c.unspent in
      let below = goes.0 in
      calls_on c k again p (record { member = member; object = object; arguments = arguments; g = g; is = is }) (omega (arith, below)) goes.1
  by_stop (Needs value) g is = needs value g is
  by_stop (Replies value) g is =
      let halted = stops_midway c.image c.start p.told p.a p.turns p.f p.midway (Replies value) g is in
      let b : Account = record (with_turns p.turns p.a) { result = result_of (seen_by p.a.answers value) } in
      goes_on c k again p (stood_at p (Replies value) g) halted Gave b refl g
      (tells c.image c.start p.told p.a (stood_at p (Replies value) g) halted Gave b (record halted.alone { frame = g }) refl halted.made halted.less halted.unmade halted.has)
      p.all p.sum p.within (acts (Stops (Replies value) g) is tt)
  by_stop (Creates class) g is =
      let goes = spends_goes c.n (setting c) (body_of p.a p.all g) c.e (creates (exec k) (setting c) class) (acts (Stops (Creates class) g) is tt) c.unspent in
      let below = goes.0 in
      let halted = stops_midway c.image c.start p.told p.a p.turns p.f p.midway (Creates class) g is in
      let object : ℤ = object_word c.start.number (length p.a.creations + 1) in
      let b : Account = with_creation class (with_turns 1 (with_turns p.turns p.a)) in
      goes_on c k again p (stood_at p (Creates class) g) halted (Named object) b (refl, refl) (named object g)
      (tells c.image c.start p.told p.a (stood_at p (Creates class) g) halted (Named object) b (record halted.alone { frame = named object g }) refl halted.made halted.less halted.unmade
      (record { here = halted.has.here; callers = halted.has.callers }))
      (p.all + 1) (ap (λ (turns : ℕ). turns + 1) p.sum) (omega (arith, below)) goes.1
  by_stop (Ends line) g is = ends_here c p (Ends line) g is (same_yield c p g (or_missed (missed_at c.image line c.start.member) p.a.result) end.Done false (acts (Stops (Ends line) g) is tt))
  by_stop Strays g is =
      let halted = stops_midway c.image c.start p.told p.a p.turns p.f p.midway Strays g is in
      let strays = c.steady p.told p.a (stood_at p Strays g) p.right (halts_next c.image c.start p.told p.a (stood_at p Strays g) halted) refl in
      let here : p.f ≡ g = fair_next c.image c.start p.told p.a p.turns p.f p.midway p.a.answers (Stops Strays g) is in
      let from : step in_place (around_start c.image c.start) (frame_seen (seen_by p.a.answers) p.f) ≡ Stops Strays (frame_seen (seen_by p.a.answers) g) =
      ap (λ (f : Frame Held). step in_place (around_start c.image c.start) (frame_seen (seen_by p.a.answers) f)) here ∙ strays in
      ends_here c p Strays g is (strays, same_yield c p g (or_missed (missed_at c.image 0 c.start.member) p.a.result) end.Done true (sym (ap (act (exec k) (setting c) (body_of p.a p.all p.f)) from) ∙ h))
  by_stop (Traps t) g is = ends_here c p (Traps t) g is (same_yield c p g (result_at_trap c.start.member t p.a.result) (end.Trap t) false (acts (Stops (Traps t) g) is tt))

  by_next : (next : Next Held) → Steps p next → Comes c
  by_next (Goes g) is = again (record {
    told = p.told;
    a = p.a;
    turns = p.turns;
    all = p.all;
    f = g;
    right = p.right;
    midway = goes_midway c.image c.start p.told p.a p.turns p.f p.midway g is;
    sum = p.sum;
    within = p.within;
  }) (acts (Goes g) is tt)
  by_next (Spends g) is =
      let goes = spends_goes c.n (setting c) (body_of p.a p.all g) c.e (exec k (setting c)) (acts (Spends g) is tt) c.unspent in
      let below = goes.0 in
      spends_on c k again p g is (omega (arith, below)) goes.1
  by_next (Stops stop g) is = by_stop stop g is

-- a need of what the frame doesn't know: what the body knows it learns, and then goes on
needs_on : (c : Case) (k : ℕ) → AllCome c k → (p : Spot c) → exec (suc k) (setting c) (body_of p.a p.all p.f) ≡ Some c.e → NeedsOn p
needs_on c k again p h value g is = by_value value is where
  waits : (value : Held) → Steps p (Stops (Needs value) g) → seen_by p.a.answers value ≡ Unknown → Comes c
  waits value is unknown =
      ends_here c p (Needs value) g is (
        unknown,
        same_yield c p g p.a.result end.Waits false
            (sym (ap (act (exec k) (setting c) (body_of p.a p.all p.f)) (needing_next c.image c.start p.told p.a p.turns p.f p.midway value g is unknown)) ∙ h),
      )

  learns_so : (result : ℕ) → Steps p (Stops (Needs (Pending result)) g) → (known : Known) → p.a.answers result ≡ arg_of_reply (Some known) → ((arg_of_reply (Some known)) ≡ Unknown → ⊥) → Comes c
  learns_so result is known told not_unknown =
      let halted = stops_midway c.image c.start p.told p.a p.turns p.f p.midway (Needs (Pending result)) g is in
      let b : Account = with_turns p.turns p.a in
      let knows : ℕ → Arg = learns result (arg_of_reply (Some known)) halted.alone.knows in
      let here : p.f ≡ g = (fair_next c.image c.start p.told p.a p.turns p.f p.midway p.a.answers (Stops (Needs (Pending result)) g) is).here in
      step_on c k again (record {
        told = Learnt known ∷ p.told;
        a = b;
        turns = 0;
        all = p.all;
        f = g;
        right = record { a = p.a; was = p.right; stood = stood_at p (Needs (Pending result)) g; halts = halts_next c.image c.start p.told p.a (stood_at p (Needs (Pending result)) g) halted; is = (told, refl) };
        midway = learnt_midway c.image c.start p.told p.a result p.turns g halted known told;
        sum = (let sum = p.sum in omega (arith, sum));
        within = p.within;
      })
      (λ value other needs. absurd (subst NeedsNone needs (subst (λ (f : Frame Held). NeedsNone (step (framed knows) (around_start c.image c.start) f)) here
      ((fair_next c.image c.start p.told p.a p.turns p.f p.midway knows (Stops (Needs (Pending result)) g) is).met
      (λ unknown. not_unknown (sym (learns_it result (arg_of_reply (Some known)) halted.alone.knows) ∙ unknown))))))
      (ap (λ (f : Frame Held). exec (suc k) (setting c) (body_of p.a p.all f)) (sym here) ∙ h)

  by_answer : (result : ℕ) → Steps p (Stops (Needs (Pending result)) g) → (a : Arg) → p.a.answers result ≡ a → Comes c
  by_answer result is (Know words) told = learns_so result is (known.Value words) told (λ h. cc h)
  by_answer result is (Trapped t) told = learns_so result is (known.Trapped t) told (λ h. cc h)
  by_answer result is Unknown told = waits (Pending result) is told

  by_value : (value : Held) → Steps p (Stops (Needs value) g) → Comes c
  by_value (Words words) is = absurd (cc ((fair_next c.image c.start p.told p.a p.turns p.f p.midway p.a.answers (Stops (Needs (Words words)) g) is).unknown))
  by_value (Pending result) is = by_answer result is (p.a.answers result) refl

-- ---- runs and yields

all_come : (c : Case) (k : ℕ) → AllCome c k
all_come c zero p h = absurd (cc h)
all_come c (suc k) p h = step_on c k (all_come c k) p (needs_on c k (all_come c k) p h) h

pub comes_through : (image : RawImage) (start : BodyStart) (replies : FinMap nat_cmp Known) (n : ℕ) (y : Yield) → StraysAsInPlace image start replies → Yields image start replies n y → y.end ≢ end.Spent → Through image start replies y
comes_through image start replies n y steady yields unspent =
    subst (Through image start replies) came.2 (all_come c yields.steps (record {
      told = [];
      a = opening;
      turns = 0;
      all = 1;
      f = start_frame Words image start;
      right = refl;
      midway = begins image start;
      sum = refl;
      within = (let below = goes.0 in omega (arith, below));
    }) (ap (λ (variables : List Arg). exec yields.steps (setting c) (record (start_body image start 0) { turns = 1; frame = record (start_frame Know image start) { variables = variables } })) seen ∙ goes.1)) where
      came : (e : Ended) × (run_of yields.steps (setting_of image start (replies_of replies) n) start ≡ Some e) × (yield_at e ≡ y)
      came = came_to (run_of yields.steps (setting_of image start (replies_of replies) n) start) y yields.within

      c : Case
      c = record { image = image; start = start; replies = replies; n = n; e = came.0; unspent = λ spent. unspent (sym (ap (λ (y : Yield). y.end) came.2) ∙ spent); steady = steady }

      goes : (0 < n) × (exec yields.steps (setting c) (record (start_body image start 0) { turns = 0 + 1 }) ≡ Some came.0)
      goes = spends_goes n (setting c) (start_body image start 0) came.0 (exec yields.steps (setting c)) came.1 c.unspent

      seen : values_seen (seen_by (λ result. Unknown)) (map Words (variables_holding (formals_at image start.member) (sizes_at image (code_of_member start.member)) start.args))
          ≡ map Know (variables_holding (formals_at image start.member) (sizes_at image (code_of_member start.member)) start.args)
      seen = known_words_seen (framed (λ result. Unknown)) (λ words. refl) (variables_holding (formals_at image start.member) (sizes_at image (code_of_member start.member)) start.args)
