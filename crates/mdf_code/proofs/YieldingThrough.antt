-- What a frame alone comes through to is its body's yield, with each allowance that the turns are within.
use Rattle.std.proofs.Common.{◌≡◌, ◌≤◌, ◌+◌, ◌==◌, ℕ, Bool, true, false, cond, List, [], ◌∷◌, length, Option, Some, None, ℤ, refl, sym, ap, ◌∙◌, subst, arith}
use Rattle.std.specs.FinMap.{FinMap}
use Rattle.std.specs.Option.{option_map}
use Rattle.std.specs.Ordering.{nat_cmp}
use Rattle.mpl_value.specs.declared.body.Arg.TheVariants.{Trapped, Unknown}
use Rattle.mpl_value.specs.declared.body.BodyEnd.{BodyEnd}
use Rattle.mpl_value.specs.declared.body.BodyEnd.TheVariants as end
use Rattle.mpl_value.specs.declared.body.BodyResult.{BodyResult}
use Rattle.mpl_value.specs.declared.body.BodyStart.{BodyStart}
use Rattle.mpl_value.specs.declared.body.Yield.{Yield}
use Rattle.mpl_value.specs.declared.known.Known.{Known}
use Rattle.mpl_value.specs.declared.known.Trap.{Trap}
use Rattle.mpl_value.specs.CallAnswers.{any_unknown, arg_of_result, known_words, leftmost_trap}
use Rattle.mpl_value.specs.Words.{object_word}
use Rattle.mdf_code.specs.declared.raw.RawImage.{RawImage}
use Rattle.mdf_code.specs.Alone.{Held, Pending, frame_seen, framed, seen_by}
use Rattle.mdf_code.specs.Frames.{Frame, Next, Goes, Spends, Stops, Stop, Calls, Creates, Ends, Needs, Replies, Strays, Traps}
use Rattle.mdf_code.specs.Right.{Account, EndsAt, IsCalled, IsRightAt, OwnYield, Right, Through, UnlessTrapped, UnlessUnknown, with_call, with_turns}
use Rattle.mdf_code.specs.Steps.{step}
use Rattle.mdf_code.specs.Told.{Beaten, Beats, Called, Gave, Learnt, Named, Stands, Stood, Told, after, most_turns}
use Rattle.mdf_code.specs.Yields.{Body, Ended, Yields, act, answer, called_in_place, calls, comes_back, comes_back_at, exec, goes_on_answered, in_place, member_is_regular, persistent_call, regular_call, regular_setting, replies_of, unless_trapped, yield_at}
use Rattle.mdf_code.proofs.Midway.{Midway, body_of, fair_next, needing_next}
use Rattle.mdf_code.proofs.MoreSteps.{exec_kept, spends_kept}
use Rattle.mdf_code.proofs.OwnRuns.{InPlace, in_place_of}
use Rattle.mdf_code.proofs.Reached.{AtLast, CallAt, Came, Given, Leads, Reaches, acted, answered_came, at_last, beat_came, called_body, came_first, created_came, gave_came, learnt_came, seen_arguments, setting, some_stood, world}
use Rattle.mdf_code.proofs.SameRuns.{called_alone, ended_later}

-- a body that makes its calls, with the replies to them, and an allowance
pub record Asking : Type 0 where
  pub image : RawImage
  pub start : BodyStart
  pub replies : FinMap nat_cmp Known
  pub n : ℕ

abbrev pub asked : Asking → Given
asked q = record { image = q.image; start = q.start; replies = replies_of q.replies; answers = None; n = q.n }

-- ---- calls

-- the body in place of a regular member, with steps enough for it and for what comes behind
back_reaches : (q : Asking) (told : List Told) (a : Account) (l : CallAt (asked q) told a) (yield : Yield) → member_is_regular q.image l.member ≡ true → any_unknown (seen_arguments l) ≡ false → leftmost_trap (seen_arguments l) ≡ None →
    OwnYield q.image l.member (known_words (seen_arguments l)) yield → a.turns + l.turns + 1 + yield.turns ≤ q.n → Reaches l (arg_of_result yield.result) a.calls (a.turns + l.turns + 1 + yield.turns)
back_reaches q told a l yield regular known trapped own within k e i = (k + placed.0, reached) where
  arguments : List (List ℤ)
  arguments = known_words (seen_arguments l)

  caller : Body
  caller = called_body l a.calls (a.turns + l.turns + 1)

  placed : (m : ℕ) × InPlace m (setting (asked q)) l.member arguments caller yield
  placed = in_place_of q.n (setting (asked q)) l.member arguments caller yield own within

  ended : Ended
  ended = ended_later caller.turns placed.1.ended

  alone : called_alone (exec (k + placed.0)) (setting (asked q)) l.member arguments caller ≡ Some ended
  alone = spends_kept q.n q.n (omega arith) (setting (asked q)) _ ended (exec placed.0 (regular_setting (setting (asked q)) l.member)) (exec (k + placed.0) (regular_setting (setting (asked q)) l.member))
      (λ c j. exec_kept q.n q.n (omega arith) placed.0 (k + placed.0) (omega arith) (regular_setting (setting (asked q)) l.member) c ended j (λ _. refl)) placed.1.comes (λ _. refl)

  turns : ended.body.turns ≡ a.turns + l.turns + 1 + yield.turns
  turns = let same : placed.1.ended.body.turns ≡ yield.turns = ap (λ (y : Yield). y.turns) placed.1.is in omega (arith, same)

  result : ended.body.result ≡ yield.result
  result = ap (λ (y : Yield). y.result) placed.1.is

  on : goes_on_answered (exec (k + placed.0)) (setting (asked q)) l.member (record caller { turns = ended.body.turns }) (arg_of_result ended.body.result) ≡ Some e
  on = ap (λ (all : ℕ). goes_on_answered (exec (k + placed.0)) (setting (asked q)) l.member (record caller { turns = all }) (arg_of_result ended.body.result)) turns
      ∙ (ap (λ (r : BodyResult). goes_on_answered (exec (k + placed.0)) (setting (asked q)) l.member (record caller { turns = a.turns + l.turns + 1 + yield.turns }) (arg_of_result r)) result
      ∙ exec_kept q.n q.n (omega arith) k (k + placed.0) (omega arith) (setting (asked q)) _ e i (λ _. refl))

  by_end : (x : BodyEnd) → ended.end ≡ x → comes_back_at (exec (k + placed.0)) (setting (asked q)) l.member caller ended x ≡ Some e
  by_end end.Done is = on
  by_end (end.Trap t) is = on
  by_end end.Waits is = on
  by_end end.Spent is = absurd (own.unspent (sym (ap (λ (y : Yield). y.end) placed.1.is) ∙ is))

  called : called_in_place (exec (k + placed.0)) (setting (asked q)) l.member arguments caller ≡ Some e
  called = ap (comes_back (exec (k + placed.0)) (setting (asked q)) l.member caller) alone ∙ by_end ended.end refl

  reached : calls (exec (k + placed.0)) (setting (asked q)) l.member l.object (seen_arguments l) (body_of a (a.turns + l.turns + 1) l.h) ≡ Some e
  reached =
      ap (λ (t : Bool). cond t (regular_call (exec (k + placed.0)) (setting (asked q)) l.member (seen_arguments l) None caller) (persistent_call (exec (k + placed.0)) (setting (asked q)) l.member l.object (seen_arguments l) caller)) regular
      ∙ (ap (λ (t : Bool). cond t (goes_on_answered (exec (k + placed.0)) (setting (asked q)) l.member caller Unknown)
      (unless_trapped (exec (k + placed.0)) (setting (asked q)) l.member caller (leftmost_trap (seen_arguments l)) (called_in_place (exec (k + placed.0)) (setting (asked q)) l.member arguments caller))) known
      ∙ (ap (λ (t : Option Trap). unless_trapped (exec (k + placed.0)) (setting (asked q)) l.member caller t (called_in_place (exec (k + placed.0)) (setting (asked q)) l.member arguments caller)) trapped ∙ called))

regular_came : (q : Asking) (told : List Told) (a : Account) (l : CallAt (asked q) told a) (b : Account) → member_is_regular q.image l.member ≡ true →
    UnlessUnknown q.image l.member (seen_arguments l) (with_turns 1 (with_turns l.turns a)) b (any_unknown (seen_arguments l)) → Came (asked q) (Called ∷ told) b
regular_came q told a l b regular right = by_test (any_unknown (seen_arguments l)) refl right where
  caller : Body
  caller = called_body l a.calls (a.turns + l.turns + 1)

  in_call : ℕ → Option Ended
  in_call k = called_in_place (exec k) (setting (asked q)) l.member (known_words (seen_arguments l)) caller

  by_regular : (k : ℕ) (e : Ended) → regular_call (exec k) (setting (asked q)) l.member (seen_arguments l) None caller ≡ Some e → calls (exec k) (setting (asked q)) l.member l.object (seen_arguments l) (body_of a (a.turns + l.turns + 1) l.h) ≡ Some e
  by_regular k e i =
      ap (λ (t : Bool). cond t (regular_call (exec k) (setting (asked q)) l.member (seen_arguments l) None caller) (persistent_call (exec k) (setting (asked q)) l.member l.object (seen_arguments l) caller)) regular ∙ i

  by_known : any_unknown (seen_arguments l) ≡ false → (k : ℕ) (e : Ended) → unless_trapped (exec k) (setting (asked q)) l.member caller (leftmost_trap (seen_arguments l)) (called_in_place (exec k) (setting (asked q)) l.member (known_words (seen_arguments l)) caller) ≡ Some e →
      regular_call (exec k) (setting (asked q)) l.member (seen_arguments l) None caller ≡ Some e
  by_known known k e i =
      ap (λ (t : Bool). cond t (goes_on_answered (exec k) (setting (asked q)) l.member caller Unknown)
      (unless_trapped (exec k) (setting (asked q)) l.member caller (leftmost_trap (seen_arguments l)) (called_in_place (exec k) (setting (asked q)) l.member (known_words (seen_arguments l)) caller))) known ∙ i

  by_trap : any_unknown (seen_arguments l) ≡ false → (t : Option Trap) → leftmost_trap (seen_arguments l) ≡ t → UnlessTrapped q.image l.member (seen_arguments l) (with_turns 1 (with_turns l.turns a)) b t → Came (asked q) (Called ∷ told) b
  by_trap known (Some t) is right =
      subst (Came (asked q) (Called ∷ told)) right (answered_came (asked q) told a l (Trapped t) a.calls (a.turns + l.turns + 1) (omega arith)
      (λ within k e i. (
        k,
        by_regular k e (by_known known k e
            (ap (λ (o : Option Trap). unless_trapped (exec k) (setting (asked q)) l.member caller o (called_in_place (exec k) (setting (asked q)) l.member (known_words (seen_arguments l)) caller)) is ∙ i)),
      )))
  by_trap known None is right =
      subst (Came (asked q) (Called ∷ told)) right.is (answered_came (asked q) told a l (arg_of_result right.yield.result) a.calls (a.turns + l.turns + 1 + right.yield.turns) (omega arith)
      (λ within. back_reaches q told a l right.yield regular known is right.own within))

  by_test : (t : Bool) → any_unknown (seen_arguments l) ≡ t → UnlessUnknown q.image l.member (seen_arguments l) (with_turns 1 (with_turns l.turns a)) b t → Came (asked q) (Called ∷ told) b
  by_test true is right =
      subst (Came (asked q) (Called ∷ told)) right (answered_came (asked q) told a l Unknown a.calls (a.turns + l.turns + 1) (omega arith)
      (λ within k e i. (
        k,
        by_regular k e (ap (λ (t : Bool). cond t (goes_on_answered (exec k) (setting (asked q)) l.member caller Unknown)
            (unless_trapped (exec k) (setting (asked q)) l.member caller (leftmost_trap (seen_arguments l)) (called_in_place (exec k) (setting (asked q)) l.member (known_words (seen_arguments l)) caller))) is ∙ i),
      )))
  by_test false is right = by_trap is (leftmost_trap (seen_arguments l)) refl right

call_came : (q : Asking) (told : List Told) (a : Account) (l : CallAt (asked q) told a) (b : Account) →
    IsCalled q.image (replies_of q.replies) l.member l.object (seen_arguments l) (with_turns 1 (with_turns l.turns a)) b (member_is_regular q.image l.member) → Came (asked q) (Called ∷ told) b
call_came q told a l b right = by_test (member_is_regular q.image l.member) refl right where
  by_test : (t : Bool) → member_is_regular q.image l.member ≡ t → IsCalled q.image (replies_of q.replies) l.member l.object (seen_arguments l) (with_turns 1 (with_turns l.turns a)) b t → Came (asked q) (Called ∷ told) b
  by_test true is right = regular_came q told a l b is right
  by_test false is right =
      subst (Came (asked q) (Called ∷ told)) right (answered_came (asked q) told a l (answer (seen_arguments l) (replies_of q.replies (length a.calls + 1))) (with_call l.member l.object (seen_arguments l) a).calls (a.turns + l.turns + 1) (omega arith)
      (λ within k e i. (
        k,
        ap (λ (t : Bool). cond t (regular_call (exec k) (setting (asked q)) l.member (seen_arguments l) None (called_body l a.calls (a.turns + l.turns + 1)))
            (persistent_call (exec k) (setting (asked q)) l.member l.object (seen_arguments l) (called_body l a.calls (a.turns + l.turns + 1)))) is ∙ i,
      )))

-- ---- one more thing told

stop_came : (q : Asking) (told : List Told) (a : Account) (turns : ℕ) (f : Frame Held) (m : Midway q.image q.start told a turns f) → (a.turns + turns ≤ q.n → Leads (asked q) (body_of a (a.turns + turns) f)) →
    (stop : Stop Held) (h : Frame Held) → step (framed m.alone.knows) (world (asked q)) f ≡ Stops stop h → (t : Told) (b : Account) → IsRightAt q.image q.start (replies_of q.replies) (with_turns turns a) (Stands stop) t b → Came (asked q) (t ∷ told) b
stop_came q told a turns f m leads (Calls member object arguments) h is Called b right =
    call_came q told a (record { turns = turns; f = f; midway = m; leads = leads; member = member; object = object; arguments = arguments; h = h; is = is }) b right
stop_came q told a turns f m leads (Needs (Pending result)) h is (Learnt known) b right =
    subst (Came (asked q) (Learnt known ∷ told)) right.1 (learnt_came (asked q) told a turns f m leads result h is known right.0)
stop_came q told a turns f m leads (Creates class) h is (Named object) b right =
    subst (λ (object : ℤ). Came (asked q) (Named object ∷ told) b) right.0 (subst (Came (asked q) (Named (object_word q.start.number (length a.creations + 1)) ∷ told)) right.1 (created_came (asked q) told a turns f m leads class h is))
stop_came q told a turns f m leads (Replies value) h is Gave b right = subst (Came (asked q) (Gave ∷ told)) right (gave_came (asked q) told a turns f m leads value h is)
stop_came q told a turns f m leads stop h is t b right = absurd right

beaten_came : (q : Asking) (told : List Told) (a : Account) (turns : ℕ) (t : Told) (b : Account) → Came (asked q) (Beaten ∷ told) (with_turns turns a) → IsRightAt q.image q.start (replies_of q.replies) (with_turns turns a) Beats t b → Came (asked q) (t ∷ told) b
beaten_came q told a turns Beaten b came right = subst (Came (asked q) (Beaten ∷ told)) right came
beaten_came q told a turns t b came right = absurd right

one_more_came : (q : Asking) (told : List Told) (a : Account) (stood : Stood) → AtLast (asked q) told a stood → (t : Told) (b : Account) → IsRightAt q.image q.start (replies_of q.replies) (with_turns stood.turns a) stood.halt t b → Came (asked q) (t ∷ told) b
one_more_came q told a stood l t b right = by_next (step (framed l.midway.alone.knows) (world (asked q)) l.f) refl l.last where
  right_at : (other : Stood) → Some other ≡ Some stood → IsRightAt q.image q.start (replies_of q.replies) (with_turns other.turns a) other.halt t b
  right_at other h = subst (λ (s : Stood). IsRightAt q.image q.start (replies_of q.replies) (with_turns s.turns a) s.halt t b) (sym (some_stood other stood h)) right

  on_spent : (h : Frame Held) → step (framed l.midway.alone.knows) (world (asked q)) l.f ≡ Spends h → (test : Bool) → l.turns + 1 == most_turns ≡ test →
      cond test (Some (record { halt = Beats; turns = l.turns + 1; frame = h })) None ≡ Some stood → Came (asked q) (t ∷ told) b
  on_spent h is true test j = beaten_came q told a (l.turns + 1) t b (beat_came (asked q) told a l.turns l.f l.midway l.leads h is test) (right_at (record { halt = Beats; turns = l.turns + 1; frame = h }) j)
  on_spent h is false test j = absurd (cc j)

  by_next : (next : Next Held) → step (framed l.midway.alone.knows) (world (asked q)) l.f ≡ next → after (λ _ _. None) most_turns l.turns next ≡ Some stood → Came (asked q) (t ∷ told) b
  by_next (Goes h) is j = absurd (cc j)
  by_next (Spends h) is j = on_spent h is (l.turns + 1 == most_turns) refl j
  by_next (Stops stop h) is j =
      stop_came q told a l.turns l.f l.midway l.leads stop h is t b (right_at (record { halt = Stands stop; turns = l.turns; frame = h }) j)

-- ---- what is told rightly

pub came : (q : Asking) (told : List Told) (a : Account) → Right q.image q.start q.replies told a → Came (asked q) told a
came q [] a right = subst (Came (asked q) []) right (came_first (asked q))
came q (t ∷ told) b right = one_more_came q told right.a right.stood (at_last (asked q) told right.a (came q told right.a right.was) right.stood right.halts) t b right.is

-- ---- ends

-- the body in place ends at the frame's halt
record EndsIn (q : Asking) (a : Account) (all : ℕ) (f : Frame Held) (yield : Yield) : Type 0 where
  ended : Ended
  is : yield_at ended ≡ yield
  ends : exec 1 (setting (asked q)) (body_of a all f) ≡ Some ended

stop_ends : (q : Asking) (told : List Told) (a : Account) (turns : ℕ) (f : Frame Held) (m : Midway q.image q.start told a turns f) (stop : Stop Held) (h : Frame Held) → step (framed m.alone.knows) (world (asked q)) f ≡ Stops stop h →
    (y : Yield) → EndsAt q.image q.start (with_turns turns a) h (Stands stop) y → EndsIn q a (a.turns + turns) f y
stop_ends q told a turns f m (Ends line) h is y at_end = record { ended = _; is = at_end; ends = acted (asked q) told a turns (a.turns + turns) f m (Stops (Ends line) h) is tt 0 }
stop_ends q told a turns f m (Traps t) h is y at_end = record { ended = _; is = at_end; ends = acted (asked q) told a turns (a.turns + turns) f m (Stops (Traps t) h) is tt 0 }
stop_ends q told a turns f m (Needs value) h is y at_end =
    record { ended = _; is = at_end.1; ends = ap (act (exec 0) (setting (asked q)) (body_of a (a.turns + turns) f)) (needing_next q.image q.start told a turns f m value h is at_end.0) }
stop_ends q told a turns f m Strays h is y at_end =
    let here : f ≡ h = fair_next q.image q.start told a turns f m a.answers (Stops Strays h) is in
    record {
      ended = _;
      is = at_end.1;
      ends = ap (act (exec 0) (setting (asked q)) (body_of a (a.turns + turns) f))
          (ap (λ (f : Frame Held). step in_place (world (asked q)) (frame_seen (seen_by a.answers) f)) here ∙ at_end.0);
    }
stop_ends q told a turns f m stop h is y at_end = absurd at_end

halt_turns : (image : RawImage) (start : BodyStart) (a : Account) (f : Frame Held) (stop : Stop Held) (y : Yield) → EndsAt image start a f (Stands stop) y → a.turns ≡ y.turns
halt_turns image start a f (Ends line) y at_end = ap (λ (y : Yield). y.turns) at_end
halt_turns image start a f (Traps t) y at_end = ap (λ (y : Yield). y.turns) at_end
halt_turns image start a f (Needs value) y at_end = ap (λ (y : Yield). y.turns) at_end.1
halt_turns image start a f Strays y at_end = ap (λ (y : Yield). y.turns) at_end.1
halt_turns image start a f stop y at_end = absurd at_end

pub yields_through : (image : RawImage) (start : BodyStart) (replies : FinMap nat_cmp Known) (n : ℕ) (y : Yield) → Through image start replies y → y.turns ≤ n → Yields image start replies n y
yields_through image start replies n y through within = by_next (step (framed l.midway.alone.knows) (world (asked q)) l.f) refl l.last where
  q : Asking
  q = record { image = image; start = start; replies = replies; n = n }

  l : AtLast (asked q) through.told through.account through.stood
  l = at_last (asked q) through.told through.account (came q through.told through.account through.right) through.stood through.halts

  ends_at : (other : Stood) → Some other ≡ Some through.stood → EndsAt image start (with_turns other.turns through.account) other.frame other.halt y
  ends_at other h = subst (λ (s : Stood). EndsAt image start (with_turns s.turns through.account) s.frame s.halt y) (sym (some_stood other through.stood h)) through.ends

  on_spent : (h : Frame Held) (test : Bool) → cond test (Some (record { halt = Beats; turns = l.turns + 1; frame = h })) None ≡ Some through.stood → Yields image start replies n y
  on_spent h true j = absurd (ends_at (record { halt = Beats; turns = l.turns + 1; frame = h }) j)
  on_spent h false j = absurd (cc j)

  by_next : (next : Next Held) → step (framed l.midway.alone.knows) (world (asked q)) l.f ≡ next → after (λ _ _. None) most_turns l.turns next ≡ Some through.stood → Yields image start replies n y
  by_next (Goes h) is j = absurd (cc j)
  by_next (Spends h) is j = on_spent h (l.turns + 1 == most_turns) j
  by_next (Stops stop h) is j =
      let at_end = ends_at (record { halt = Stands stop; turns = l.turns; frame = h }) j in
      let turns = halt_turns image start (with_turns l.turns through.account) h stop y at_end in
      let over = stop_ends q through.told through.account l.turns l.f l.midway stop h is y at_end in
      let ran = l.leads (omega (arith, turns, within)) 1 over.ended over.ends in
      record { steps = ran.0; within = ap (option_map yield_at) ran.1 ∙ ap (λ (y : Yield). Some y) over.is }
