-- What more replies change of a run: it goes on where it waited, and adds to what it did.
use Rattle.std.proofs.Common.{◌≡◌, ◌≢◌, ◌≤◌, ◌+◌, ◌-◌, ◌||◌, ℕ, zero, suc, Bool, true, false, List, [], ◌∷◌, ◌++◌, length, Option, Some, None, ℤ, pos, cond, refl, sym, ap, ap₂, ◌∙◌, subst, arith, ◌⊎◌, inl, inr}
use Rattle.std.specs.List.{AllZip}
use Rattle.mpl_value.specs.declared.body.Arg.{Arg}
use Rattle.mpl_value.specs.declared.body.Arg.TheVariants.{Know, Trapped, Unknown}
use Rattle.mpl_value.specs.declared.body.BodyEnd.{BodyEnd}
use Rattle.mpl_value.specs.declared.body.BodyEnd.TheVariants as end
use Rattle.mpl_value.specs.declared.body.BodyResult.{BodyResult}
use Rattle.mpl_value.specs.declared.body.BodyResult.TheVariants as result
use Rattle.mpl_value.specs.declared.body.CallMade.{CallMade}
use Rattle.mpl_value.specs.declared.body.MemberId.{MemberId}
use Rattle.mpl_value.specs.declared.known.Trap.{Trap}
use Rattle.mpl_value.specs.CallAnswers.{any_unknown, arg_of_result, is_unknown, known_words, leftmost_trap}
use Rattle.mpl_value.specs.Growing.{Begins, CallStays, Grows, IsFront, ResultStays, Stays}
use Rattle.mpl_value.specs.Results.{result_of}
use Rattle.mpl_value.specs.Words.{object_word}
use Rattle.mdf_code.specs.Alone.{StaysUnlessUnknown, frame_seen, next_seen, values_seen}
use Rattle.mdf_code.specs.Frames.{Flows, Frame, Next, Goes, Spends, Stops, Calls, Creates, Ends, Needs, Replies, Strays, Traps}
use Rattle.mdf_code.specs.Steps.{step}
use Rattle.mdf_code.specs.Yields.{Body, Ended, Setting, act, answer, answered, around, called_in_place, calls, comes_back, comes_back_at, creates, ends, exec, goes_on_answered, in_place, made, member_is_regular, missed_at, named, or_missed, persistent_call, regular_call, result_at_trap, unless_trap, unless_trapped, with_frame, yield_at}
use Rattle.mdf_code.proofs.AddingSteps.{Adds, front_same, step_adds}
use Rattle.mdf_code.proofs.CountedSteps.{IsCounted, at_most_one_above, exec_counted}
use Rattle.mdf_code.proofs.GrownBodies.{IsGrown, IsOpen, exec_grows, result_kept}
use Rattle.mdf_code.proofs.MoreKnown.{more_seen}
use Rattle.mdf_code.proofs.MoreSteps.{at}
use Rattle.mdf_code.proofs.SameRuns.{Alike, alone_counted, called_alone, called_twice, calls_counting, creates_counting, ended_later, later}
use Rattle.mdf_code.proofs.SeenSteps.{step_seen}
use Rattle.mdf_code.proofs.TwoRuns.{IsPast, back_past, branch_both, ended_is, exec_counting, spends_both}

-- ---- what is known, and with more replies

-- of a flow value, under each of two tables of replies
pub record KnownTwice : Type 0 where
  pub before : Arg
  pub after : Arg
  pub stays : Stays before after

abbrev before : KnownTwice → Arg
before value = value.before

abbrev after : KnownTwice → Arg
after value = value.after

abbrev pub known_twice : List ℤ → KnownTwice
known_twice words = record { before = Know words; after = Know words; stays = refl }

-- as the first table shows it
abbrev pub shown_before : Flows KnownTwice
shown_before = record { see = before; known = known_twice }

abbrev pub shown_after : Flows KnownTwice
shown_after = record { see = after; known = known_twice }

pub stays_same : (a : Arg) → Stays a a
stays_same (Know words) = refl
stays_same (Trapped t) = refl
stays_same Unknown = tt

same_if_known : (a b : Arg) → Stays a b → is_unknown a ≡ false → a ≡ b
same_if_known (Know words) b stays known = stays
same_if_known (Trapped t) b stays known = stays
same_if_known Unknown b stays known = absurd (cc known)

true_is_not_false : true ≡ false → ⊥
true_is_not_false h = cc h

both_false : (p q : Bool) → p || q ≡ false → (p ≡ false) × (q ≡ false)
both_false true q h = absurd (cc h)
both_false false q h = (refl, h)

-- arguments that are known are the same
known_are_same : (arguments : List KnownTwice) → any_unknown (values_seen before arguments) ≡ false → values_seen before arguments ≡ values_seen after arguments
known_are_same [] h = refl
known_are_same (value ∷ values) h =
    let known = both_false (is_unknown value.before) (any_unknown (values_seen before values)) h in
    ap₂ (λ (a : Arg) (others : List Arg). a ∷ others) (same_if_known value.before value.after value.stays known.0) (known_are_same values known.1)

arguments_stay : (arguments : List KnownTwice) → AllZip Stays (values_seen before arguments) (values_seen after arguments)
arguments_stay [] = tt
arguments_stay (value ∷ values) = (value.stays, arguments_stay values)

answer_stays : (arguments : List KnownTwice) (a b : Arg) → Stays a b → Stays (answer (values_seen before arguments) a) (answer (values_seen after arguments) b)
answer_stays arguments a b stays = by_test (any_unknown (values_seen before arguments)) refl where
  by_trap : (t : Option Trap) → Stays (unless_trap a t) (unless_trap b t)
  by_trap None = stays
  by_trap (Some t) = refl

  by_test : (t : Bool) → any_unknown (values_seen before arguments) ≡ t → Stays (answer (values_seen before arguments) a) (answer (values_seen after arguments) b)
  by_test true is = subst (λ (t : Bool). Stays (cond t Unknown (unless_trap a (leftmost_trap (values_seen before arguments)))) (answer (values_seen after arguments) b)) (sym is) tt
  by_test false is =
      subst (λ (others : List Arg). Stays (answer (values_seen before arguments) a) (answer others b)) (known_are_same arguments is)
      (subst (λ (t : Bool). Stays (cond t Unknown (unless_trap a (leftmost_trap (values_seen before arguments)))) (cond t Unknown (unless_trap b (leftmost_trap (values_seen before arguments))))) (sym is)
      (by_trap (leftmost_trap (values_seen before arguments))))

-- ---- results and calls

-- what isn't unknown is the same
abbrev pub IsAlike : BodyResult → BodyResult → Type 0
IsAlike result.Open after = result.Open ≡ after
IsAlike (result.Known known) after = result.Known known ≡ after
IsAlike result.Unknown after = Unit {0}

alike_stays : (r s : BodyResult) → IsAlike r s → ResultStays r s
alike_stays result.Open s alike = tt
alike_stays (result.Known known) s alike = alike
alike_stays result.Unknown s alike = tt

given_alike : (a b : Arg) → Stays a b → IsAlike (result_of a) (result_of b)
given_alike (Know words) b stays = ap result_of stays
given_alike (Trapped t) b stays = ap result_of stays
given_alike Unknown b stays = tt

missed_alike : (missed r s : BodyResult) → IsAlike r s → ResultStays (or_missed missed r) (or_missed missed s)
missed_alike missed result.Open s alike = subst (λ (x : BodyResult). ResultStays missed (or_missed missed x)) alike (result_kept missed)
missed_alike missed (result.Known known) s alike = ap (or_missed missed) alike
missed_alike missed result.Unknown s alike = tt

trapped_alike : (member : Option MemberId) (t : Trap) (r s : BodyResult) → IsAlike r s → ResultStays (result_at_trap member t r) (result_at_trap member t s)
trapped_alike None t r s alike = alike_stays r s alike
trapped_alike (Some member) t result.Open s alike = ap (result_at_trap (Some member) t) alike
trapped_alike (Some member) t (result.Known known) s alike = ap (result_at_trap (Some member) t) alike
trapped_alike (Some member) t result.Unknown s alike = tt

as_many : (xs ys : List CallMade) → AllZip CallStays xs ys → length xs ≡ length ys
as_many [] [] h = refl
as_many [] (y ∷ ys) h = absurd h
as_many (x ∷ xs) [] h = absurd h
as_many (x ∷ xs) (y ∷ ys) h = ap suc (as_many xs ys h.1)

one_more : (xs ys : List CallMade) (x y : CallMade) → AllZip CallStays xs ys → CallStays x y → AllZip CallStays (xs ++ x ∷ []) (ys ++ y ∷ [])
one_more [] [] x y h stays = (stays, tt)
one_more [] (z ∷ ys) x y h stays = absurd h
one_more (z ∷ xs) [] x y h stays = absurd h
one_more (z ∷ xs) (w ∷ ys) x y h stays = (h.0, one_more xs ys x y h.1 stays)

calls_begin : (xs ys zs : List CallMade) → AllZip CallStays xs ys → IsFront ys zs → Begins CallStays xs zs
calls_begin [] ys zs h front = tt
calls_begin (x ∷ xs) [] zs h front = absurd h
calls_begin (x ∷ xs) (y ∷ ys) [] h front = absurd front
calls_begin (x ∷ xs) (y ∷ ys) (z ∷ zs) h front = (subst (CallStays x) front.0 h.0, calls_begin xs ys zs h.1 front.1)

-- ---- two bodies

-- bodies that have done the same, within their turns, but for what isn't known to the first
pub record AreTwins (n m : ℕ) (b c : Body) : Type 0 where
  pub frame : Frame KnownTwice
  pub first : frame_seen before frame ≡ b.frame
  pub second : frame_seen after frame ≡ c.frame
  pub calls : AllZip CallStays b.calls c.calls
  pub creations : b.creations ≡ c.creations
  pub result : IsAlike b.result c.result
  pub unset : IsOpen c
  pub within : b.turns ≤ n
  pub within_more : c.turns ≤ m
  pub fewer : b.turns ≤ c.turns

-- where two runs come to: the second took no fewer turns, and has all that the first has
pub record Meets (e f : Ended) : Type 0 where
  pub turns : e.body.turns ≤ f.body.turns
  pub grows : e.end ≢ end.Spent → f.end ≢ end.Spent → e.body.strayed ≡ false → Grows (yield_at e) (yield_at f)

pub past_meets : (e f : Ended) → IsPast e f → Meets e f
past_meets e f past = record { turns = past.turns; grows = λ first second strayed. by_spent first second past.spent } where
  by_spent : (e.end ≢ end.Spent) → (f.end ≢ end.Spent) → (e.end ≡ end.Spent) ⊎ (f.end ≡ end.Spent) → Grows (yield_at e) (yield_at f)
  by_spent first second (inl is) = absurd (first is)
  by_spent first second (inr is) = absurd (second is)

-- with other frames
moved : {n m : ℕ} {b c : Body} (twins : AreTwins n m b c) (g : Frame KnownTwice) → g.replied ≡ twins.frame.replied → AreTwins n m (with_frame (frame_seen before g) b) (with_frame (frame_seen after g) c)
moved twins g replied = record {
  frame = g;
  first = refl;
  second = refl;
  calls = twins.calls;
  creations = twins.creations;
  result = twins.result;
  unset = λ is. twins.unset (sym (ap (λ (f : Frame Arg). f.replied) twins.second) ∙ (sym replied ∙ is));
  within = twins.within;
  within_more = twins.within_more;
  fewer = twins.fewer;
}

-- with other turns
pub turned : {n m : ℕ} {b c : Body} (p q : ℕ) → AreTwins n m b c → p ≤ n → q ≤ m → p ≤ q → AreTwins n m (record b { turns = p }) (record c { turns = q })
turned p q twins within within_more fewer = record {
  frame = twins.frame;
  first = twins.first;
  second = twins.second;
  calls = twins.calls;
  creations = twins.creations;
  result = twins.result;
  unset = twins.unset;
  within = within;
  within_more = within_more;
  fewer = fewer;
}

-- with one more call sent
sent : {n m : ℕ} {b c : Body} → AreTwins n m b c → AreTwins n m (record b { sent = b.sent + 1 }) (record c { sent = c.sent + 1 })
sent twins = record {
  frame = twins.frame;
  first = twins.first;
  second = twins.second;
  calls = twins.calls;
  creations = twins.creations;
  result = twins.result;
  unset = twins.unset;
  within = twins.within;
  within_more = twins.within_more;
  fewer = twins.fewer;
}

-- a setting with so many turns and these replies
abbrev pub under : ℕ → (ℕ → Arg) → Setting → Setting
under turns replies s = record s { turns = turns; replies = replies; answers = None }

-- two tables, and how many turns and steps there are under each
pub record Tables : Type 0 where
  pub n : ℕ
  pub m : ℕ
  pub less : n ≤ m
  pub knows : ℕ → Arg
  pub more : ℕ → Arg
  pub stays : (call : ℕ) → Stays (knows call) (more call)

abbrev pub AllMeet : Tables → ℕ → ℕ → Type 0
AllMeet t k l = (s : Setting) (b c : Body) (e f : Ended) → AreTwins t.n t.m b c → exec k (under t.n t.knows s) b ≡ Some e → exec l (under t.m t.more s) c ≡ Some f → Meets e f

-- ---- calls

answered_meet : (t : Tables) (k l : ℕ) → AllMeet t k l → (s : Setting) (member : ℕ) (b c : Body) (e f : Ended) (value : KnownTwice) → AreTwins t.n t.m b c →
    goes_on_answered (exec k) (under t.n t.knows s) member b value.before ≡ Some e → goes_on_answered (exec l) (under t.m t.more s) member c value.after ≡ Some f → Meets e f
answered_meet t k l meet s member b c e f value twins h g = meet s _ _ e f (record {
  frame = answered s.image member value twins.frame;
  first = ap (answered s.image member value.before) twins.first;
  second = ap (answered s.image member value.after) twins.second;
  calls = twins.calls;
  creations = twins.creations;
  result = twins.result;
  unset = twins.unset;
  within = twins.within;
  within_more = twins.within_more;
  fewer = twins.fewer;
}) h g

-- a body in place that the second calls alone
second_called : (t : Tables) (k l : ℕ) → AllMeet t k l → (s : Setting) (member : ℕ) (arguments : List (List ℤ)) (b c : Body) (e f : Ended) → AreTwins t.n t.m b c →
    goes_on_answered (exec k) (under t.n t.knows s) member b Unknown ≡ Some e → called_in_place (exec l) (under t.m t.more s) member arguments c ≡ Some f → Meets e f
second_called t k l meet s member arguments b c e f twins h g = by_call (called_alone (exec l) (under t.m t.more s) member arguments c) refl g where
  goes_on : (y : Ended) → called_alone (exec l) (under t.m t.more s) member arguments c ≡ Some y → (y.end ≢ end.Spent) →
      goes_on_answered (exec l) (under t.m t.more s) member (record c { turns = y.body.turns }) (arg_of_result y.body.result) ≡ Some f → Meets e f
  goes_on y is not_spent j =
      let counted = alone_counted c.turns t.m l s member arguments c y (omega arith, twins.within_more) is in
      let fewer = twins.fewer in
      let above = counted.above in
      answered_meet t k l meet s member b (record c { turns = y.body.turns }) e f (record { before = Unknown; after = arg_of_result y.body.result; stays = tt })
      (turned b.turns y.body.turns twins twins.within (counted.within not_spent) (omega (arith, fewer, above))) h j

  by_end : (y : Ended) → called_alone (exec l) (under t.m t.more s) member arguments c ≡ Some y → (x : BodyEnd) → y.end ≡ x → comes_back_at (exec l) (under t.m t.more s) member c y x ≡ Some f → Meets e f
  by_end y is end.Done ended j = goes_on y is (λ spent. absurd (cc (ended, spent))) j
  by_end y is (end.Trap trap) ended j = goes_on y is (λ spent. absurd (cc (ended, spent))) j
  by_end y is end.Waits ended j = goes_on y is (λ spent. absurd (cc (ended, spent))) j
  by_end y is end.Spent ended j =
      let counted = alone_counted c.turns t.m l s member arguments c y (omega arith, twins.within_more) is in
      let spent = counted.spent ended in
      let most = at_most_one_above 0 t.n e (exec_counted 0 t.n k (under t.n t.knows s) _ e refl (omega arith, twins.within) h) in
      let less = t.less in
      past_meets e f (subst (λ (z : Ended). IsPast e z) (ended_is end.Spent _ f j) (record { spent = inr refl; turns = omega (arith, spent, most, less) }))

  by_call : (o : Option Ended) → called_alone (exec l) (under t.m t.more s) member arguments c ≡ o → comes_back (exec l) (under t.m t.more s) member c o ≡ Some f → Meets e f
  by_call None is j = absurd (cc j)
  by_call (Some y) is j = by_end y is y.end refl j

-- a body in place that both call
both_called : (t : Tables) (k l : ℕ) → AllMeet t k l → (s : Setting) (member : ℕ) (arguments : List (List ℤ)) (b c : Body) (e f : Ended) → AreTwins t.n t.m b c →
    called_in_place (exec k) (under t.n t.knows s) member arguments b ≡ Some e → called_in_place (exec l) (under t.m t.more s) member arguments c ≡ Some f → Meets e f
both_called t k l meet s member arguments b c e f twins h g =
    by_calls (called_alone (exec k) (under t.n t.knows s) member arguments b) refl (called_alone (exec l) (under t.m t.more s) member arguments c) refl h g where
      ahead : ℕ
      ahead = c.turns - b.turns

      has_more : b.turns + ahead ≡ c.turns
      has_more = let fewer = twins.fewer in omega (arith, fewer)

      goes_on : (x y : Ended) → IsCounted 0 t.n x → IsCounted 0 t.m y → (x.end ≢ end.Spent) → ended_later ahead x ≡ y →
          goes_on_answered (exec k) (under t.n t.knows s) member (record b { turns = x.body.turns }) (arg_of_result x.body.result) ≡ Some e →
          goes_on_answered (exec l) (under t.m t.more s) member (record c { turns = x.body.turns + ahead }) (arg_of_result x.body.result) ≡ Some f → Meets e f
      goes_on x y counted counted_more not_spent same i j =
          let more : IsCounted 0 t.m (ended_later ahead x) = subst (IsCounted 0 t.m) (sym same) counted_more in
          answered_meet t k l meet s member (record b { turns = x.body.turns }) (record c { turns = x.body.turns + ahead }) e f
          (record { before = arg_of_result x.body.result; after = arg_of_result x.body.result; stays = stays_same (arg_of_result x.body.result) })
          (turned x.body.turns (x.body.turns + ahead) twins (counted.within not_spent) (more.within not_spent) (omega arith)) i j

      by_end : (x y : Ended) → IsCounted 0 t.n x → IsCounted 0 t.m y → ended_later ahead x ≡ y → (o : BodyEnd) → x.end ≡ o →
          comes_back_at (exec k) (under t.n t.knows s) member b x o ≡ Some e → comes_back_at (exec l) (under t.m t.more s) member c (ended_later ahead x) o ≡ Some f → Meets e f
      by_end x y counted counted_more same end.Done is i j = goes_on x y counted counted_more (λ spent. absurd (cc (is, spent))) same i j
      by_end x y counted counted_more same (end.Trap trap) is i j = goes_on x y counted counted_more (λ spent. absurd (cc (is, spent))) same i j
      by_end x y counted counted_more same end.Waits is i j = goes_on x y counted counted_more (λ spent. absurd (cc (is, spent))) same i j
      by_end x y counted counted_more same end.Spent is i j =
          past_meets e f (subst (λ (z : Ended). IsPast z f) (ended_is end.Spent _ e i)
          (subst (IsPast (record { body = record b { turns = x.body.turns }; end = end.Spent })) (ended_is end.Spent _ f j) (record { spent = inl refl; turns = omega arith })))

      by_alike : (x y : Ended) → IsCounted 0 t.n x → IsCounted 0 t.m y → Alike ahead x y →
          comes_back (exec k) (under t.n t.knows s) member b (Some x) ≡ Some e → comes_back (exec l) (under t.m t.more s) member c (Some y) ≡ Some f → Meets e f
      by_alike x y counted counted_more (inr past) i j =
          past_meets e f (back_past t.n t.m t.less k l (under t.n t.knows s) (under t.m t.more s) member b c x y e f counted counted_more past i j)
      by_alike x y counted counted_more (inl same) i j =
          by_end x y counted counted_more same x.end refl i (ap (λ (z : Ended). comes_back (exec l) (under t.m t.more s) member c (Some z)) same ∙ j)

      shifted : called_alone (exec l) (at t.m s) member arguments (later ahead b) ≡ called_alone (exec l) (under t.m t.more s) member arguments c
      shifted = ap (λ (turns : ℕ). called_alone (exec l) (at t.m s) member arguments (record b { turns = turns })) has_more

      by_calls : (o : Option Ended) → called_alone (exec k) (under t.n t.knows s) member arguments b ≡ o → (p : Option Ended) → called_alone (exec l) (under t.m t.more s) member arguments c ≡ p →
          comes_back (exec k) (under t.n t.knows s) member b o ≡ Some e → comes_back (exec l) (under t.m t.more s) member c p ≡ Some f → Meets e f
      by_calls None is p also i j = absurd (cc i)
      by_calls (Some x) is None also i j = absurd (cc j)
      by_calls (Some x) is (Some y) also i j =
          let within = twins.within_more in
          by_alike x y (alone_counted 0 t.n k s member arguments b x (omega arith, twins.within) is) (alone_counted 0 t.m l s member arguments c y (omega arith, twins.within_more) also)
          (called_twice t.n t.m ahead t.less k l s member arguments b x y twins.within (omega (arith, within, has_more)) is (shifted ∙ also)) i j

-- the first goes on with what isn't known
first_unknown : (t : Tables) (k l : ℕ) → AllMeet t k l → (s : Setting) (member : ℕ) (arguments : List Arg) (b c : Body) (e f : Ended) → AreTwins t.n t.m b c →
    goes_on_answered (exec k) (under t.n t.knows s) member b Unknown ≡ Some e → regular_call (exec l) (under t.m t.more s) member arguments None c ≡ Some f → Meets e f
first_unknown t k l meet s member arguments b c e f twins h g = by_test (any_unknown arguments) g where
  by_trap : (trap : Option Trap) → unless_trapped (exec l) (under t.m t.more s) member c trap (called_in_place (exec l) (under t.m t.more s) member (known_words arguments) c) ≡ Some f → Meets e f
  by_trap None j = second_called t k l meet s member (known_words arguments) b c e f twins h j
  by_trap (Some trap) j = answered_meet t k l meet s member b c e f (record { before = Unknown; after = Trapped trap; stays = tt }) twins h j

  by_test : (x : Bool) → cond x (goes_on_answered (exec l) (under t.m t.more s) member c Unknown)
      (unless_trapped (exec l) (under t.m t.more s) member c (leftmost_trap arguments) (called_in_place (exec l) (under t.m t.more s) member (known_words arguments) c)) ≡ Some f → Meets e f
  by_test true j = answered_meet t k l meet s member b c e f (record { before = Unknown; after = Unknown; stays = tt }) twins h j
  by_test false j = by_trap (leftmost_trap arguments) j

regular_meet : (t : Tables) (k l : ℕ) → AllMeet t k l → (s : Setting) (member : ℕ) (arguments : List KnownTwice) (b c : Body) (e f : Ended) → AreTwins t.n t.m b c →
    regular_call (exec k) (under t.n t.knows s) member (values_seen before arguments) None b ≡ Some e → regular_call (exec l) (under t.m t.more s) member (values_seen after arguments) None c ≡ Some f → Meets e f
regular_meet t k l meet s member arguments b c e f twins h g = by_test (any_unknown (values_seen before arguments)) refl where
  called_first : Option Ended
  called_first = called_in_place (exec k) (under t.n t.knows s) member (known_words (values_seen before arguments)) b

  called_second : Option Ended
  called_second = called_in_place (exec l) (under t.m t.more s) member (known_words (values_seen before arguments)) c

  by_trap : (trap : Option Trap) → unless_trapped (exec k) (under t.n t.knows s) member b trap called_first ≡ Some e → unless_trapped (exec l) (under t.m t.more s) member c trap called_second ≡ Some f → Meets e f
  by_trap None i j = both_called t k l meet s member (known_words (values_seen before arguments)) b c e f twins i j
  by_trap (Some trap) i j = answered_meet t k l meet s member b c e f (record { before = Trapped trap; after = Trapped trap; stays = refl }) twins i j

  trapped_first : Option Ended
  trapped_first = unless_trapped (exec k) (under t.n t.knows s) member b (leftmost_trap (values_seen before arguments)) called_first

  trapped_second : Option Ended
  trapped_second = unless_trapped (exec l) (under t.m t.more s) member c (leftmost_trap (values_seen before arguments)) called_second

  by_test : (x : Bool) → any_unknown (values_seen before arguments) ≡ x → Meets e f
  by_test true is = first_unknown t k l meet s member (values_seen after arguments) b c e f twins
      (sym (ap (λ (x : Bool). cond x (goes_on_answered (exec k) (under t.n t.knows s) member b Unknown) trapped_first) is) ∙ h) g
  by_test false is = by_trap (leftmost_trap (values_seen before arguments))
      (sym (ap (λ (x : Bool). cond x (goes_on_answered (exec k) (under t.n t.knows s) member b Unknown) trapped_first) is) ∙ h)
      (sym (ap (λ (x : Bool). cond x (goes_on_answered (exec l) (under t.m t.more s) member c Unknown) trapped_second) is)
      ∙ (ap (λ (others : List Arg). regular_call (exec l) (under t.m t.more s) member others None c) (known_are_same arguments is) ∙ g))

persistent_meet : (t : Tables) (k l : ℕ) → AllMeet t k l → (s : Setting) (member : ℕ) (object : ℤ) (arguments : List KnownTwice) (b c : Body) (e f : Ended) → AreTwins t.n t.m b c →
    persistent_call (exec k) (under t.n t.knows s) member object (values_seen before arguments) b ≡ Some e → persistent_call (exec l) (under t.m t.more s) member object (values_seen after arguments) c ≡ Some f → Meets e f
persistent_meet t k l meet s member object arguments b c e f twins h g =
    answered_meet t k l meet s member (made member object (values_seen before arguments) b) (made member object (values_seen after arguments) c) e f
    (record { before = answer (values_seen before arguments) (t.knows (length b.calls + 1)); after = answer (values_seen after arguments) (t.more (length c.calls + 1)); stays = stays })
    (record {
      frame = twins.frame;
      first = twins.first;
      second = twins.second;
      calls = one_more b.calls c.calls _ _ twins.calls (record { call = same; object = refl; member = refl; arguments = arguments_stay arguments });
      creations = twins.creations;
      result = twins.result;
      unset = twins.unset;
      within = twins.within;
      within_more = twins.within_more;
      fewer = twins.fewer;
    }) h g where
      same : length b.calls + 1 ≡ length c.calls + 1
      same = ap (λ (calls : ℕ). calls + 1) (as_many b.calls c.calls twins.calls)

      stays : Stays (answer (values_seen before arguments) (t.knows (length b.calls + 1))) (answer (values_seen after arguments) (t.more (length c.calls + 1)))
      stays = answer_stays arguments _ _ (subst (λ (call : ℕ). Stays (t.knows (length b.calls + 1)) (t.more call)) same (t.stays (length b.calls + 1)))

calls_meet : (t : Tables) (k l : ℕ) → AllMeet t k l → (s : Setting) (member : ℕ) (object : ℤ) (arguments : List KnownTwice) (b c : Body) (e f : Ended) → AreTwins t.n t.m b c →
    calls (exec k) (under t.n t.knows s) member object (values_seen before arguments) b ≡ Some e → calls (exec l) (under t.m t.more s) member object (values_seen after arguments) c ≡ Some f → Meets e f
calls_meet t k l meet s member object arguments b c e f twins h g =
    branch_both (member_is_regular s.image member) _ _ _ _ e f
    (λ i j. regular_meet t k l meet s member arguments (record b { sent = b.sent + 1 }) (record c { sent = c.sent + 1 }) e f (sent twins) i j)
    (λ i j. persistent_meet t k l meet s member object arguments (record b { sent = b.sent + 1 }) (record c { sent = c.sent + 1 }) e f (sent twins) i j) h g

creates_meet : (t : Tables) (k l : ℕ) → AllMeet t k l → (s : Setting) (class : ℕ) (b c : Body) (e f : Ended) → AreTwins t.n t.m b c →
    creates (exec k) (under t.n t.knows s) class b ≡ Some e → creates (exec l) (under t.m t.more s) class c ≡ Some f → Meets e f
creates_meet t k l meet s class b c e f twins h g = meet s _ _ e f (record {
  frame = named (object_word s.number (length b.creations + 1)) twins.frame;
  first = ap (named (object_word s.number (length b.creations + 1))) twins.first;
  second =
      ap (named (object_word s.number (length b.creations + 1))) twins.second
      ∙ ap (λ (creations : List ℤ). named (object_word s.number (length creations + 1)) c.frame) twins.creations;
  calls = twins.calls;
  creations = ap (λ (creations : List ℤ). creations ++ pos class ∷ []) twins.creations;
  result = twins.result;
  unset = twins.unset;
  within = twins.within;
  within_more = twins.within_more;
  fewer = twins.fewer;
}) h g

-- ---- ends

-- both are at the same end
over_meets : (n m : ℕ) (x : BodyEnd) (b c : Body) (r q : BodyResult) (g : Frame KnownTwice) (e f : Ended) → AreTwins n m b c → ResultStays r q →
    ends x (record b { frame = frame_seen before g; result = r }) ≡ Some e → ends x (record c { frame = frame_seen after g; result = q }) ≡ Some f → Meets e f
over_meets n m x b c r q g e f twins stays h i = subst (λ (z : Ended). Meets z f) (ended_is x _ e h) (subst (Meets first) (ended_is x _ f i) meets) where
  first : Ended
  first = record { body = record b { frame = frame_seen before g; result = r }; end = x }

  second : Ended
  second = record { body = record c { frame = frame_seen after g; result = q }; end = x }

  meets : Meets first second
  meets = record {
    turns = twins.fewer;
    grows = λ _ _ _. record {
      result = stays;
      settled = λ _. record { end = refl; lines = refl; state = refl };
      lines = front_same g.lines;
      creations = subst (IsFront b.creations) twins.creations (front_same b.creations);
      calls = calls_begin b.calls c.calls c.calls twins.calls (front_same c.calls);
      turns = twins.fewer;
    };
  }

-- the first waits where the second may go on
waits_meets : (n m : ℕ) (b c : Body) (g : Frame KnownTwice) (e f : Ended) → (twins : AreTwins n m b c) → twins.frame ≡ g → c.turns ≤ f.body.turns → IsGrown c f.body →
    ends end.Waits (with_frame (frame_seen before g) b) ≡ Some e → Meets e f
waits_meets n m b c g e f twins same above grown h =
    let fewer = twins.fewer in
    subst (λ (z : Ended). Meets z f) (ended_is end.Waits _ e h) (record {
      turns = omega (arith, fewer, above);
      grows = λ _ _ _. record {
        result = by_result b.result c.result twins.result grown.result;
        settled = λ over. absurd over;
        lines = subst (λ (lines : List ℕ). IsFront lines f.body.frame.lines) (sym (ap (λ (z : Frame Arg). z.lines) twins.second) ∙ ap (λ (z : Frame KnownTwice). z.lines) same) grown.lines;
        creations = subst (λ (creations : List ℤ). IsFront creations f.body.creations) (sym twins.creations) grown.creations;
        calls = calls_begin b.calls c.calls f.body.calls twins.calls grown.calls;
        turns = omega (arith, fewer, above);
      };
    }) where
      by_result : (r q : BodyResult) → IsAlike r q → ResultStays q f.body.result → ResultStays r f.body.result
      by_result result.Open q alike stays = tt
      by_result (result.Known known) q alike stays = subst (λ (x : BodyResult). ResultStays x f.body.result) (sym alike) stays
      by_result result.Unknown q alike stays = tt

strays_meets : (b : Body) (r : BodyResult) (g : Frame Arg) (e f : Ended) → b.turns ≤ f.body.turns → ends end.Done (record b { frame = g; strayed = true; result = r }) ≡ Some e → Meets e f
strays_meets b r g e f fewer h = subst (λ (z : Ended). Meets z f) (ended_is end.Done _ e h) (record { turns = fewer; grows = λ first second strayed. absurd (cc strayed) })

-- ---- steps

act_meets : (t : Tables) (k l : ℕ) → AllMeet t k l → (s : Setting) (b c : Body) (e f : Ended) (twins : AreTwins t.n t.m b c) → c.turns ≤ f.body.turns → IsGrown c f.body → (next : Next KnownTwice) →
    Adds twins.frame next → (other : Next KnownTwice) → StaysUnlessUnknown before next other →
    act (exec k) (under t.n t.knows s) b (next_seen before next) ≡ Some e → act (exec l) (under t.m t.more s) c (next_seen after other) ≡ Some f → Meets e f
act_meets t k l meet s b c e f twins above grown next adds other agree h i = by_next next adds agree h where
  -- the second makes the same step
  same : (next : Next KnownTwice) → next ≡ other → act (exec l) (under t.m t.more s) c (next_seen after next) ≡ Some f
  same next is = ap (λ (z : Next KnownTwice). act (exec l) (under t.m t.more s) c (next_seen after z)) is ∙ i

  by_next : (next : Next KnownTwice) → Adds twins.frame next → StaysUnlessUnknown before next other → act (exec k) (under t.n t.knows s) b (next_seen before next) ≡ Some e → Meets e f
  by_next (Goes g) adds agree h = meet s _ _ e f (moved twins g adds.replied) h (same (Goes g) agree)
  by_next (Spends g) adds agree h =
      spends_both t.n t.m t.less (under t.n t.knows s) (under t.m t.more s) (with_frame (frame_seen before g) b) (with_frame (frame_seen after g) c) e f _ _
      (exec_counting t.n k (under t.n t.knows s)) (exec_counting t.m l (under t.m t.more s)) twins.within twins.within_more twins.fewer
      (λ one two j z. meet s _ _ e f (turned (b.turns + 1) (c.turns + 1) (moved twins g adds.replied) one two (let fewer = twins.fewer in omega (arith, fewer))) j z) (past_meets e f) h (same (Spends g) agree)
  by_next (Stops (Calls member object arguments) g) adds agree h =
      spends_both t.n t.m t.less (under t.n t.knows s) (under t.m t.more s) (with_frame (frame_seen before g) b) (with_frame (frame_seen after g) c) e f _ _
      (calls_counting t.n k (under t.n t.knows s) member object (values_seen before arguments)) (calls_counting t.m l (under t.m t.more s) member object (values_seen after arguments))
      twins.within twins.within_more twins.fewer
      (λ one two j z. calls_meet t k l meet s member object arguments _ _ e f (turned (b.turns + 1) (c.turns + 1) (moved twins g adds.replied) one two (let fewer = twins.fewer in omega (arith, fewer))) j z) (past_meets e f)
      h (same (Stops (Calls member object arguments) g) agree)
  by_next (Stops (Needs value) g) adds agree h = waits_meets t.n t.m b c g e f twins adds above grown h
  by_next (Stops (Replies value) g) adds agree h =
      meet s _ _ e f (record {
        frame = g;
        first = refl;
        second = refl;
        calls = twins.calls;
        creations = twins.creations;
        result = given_alike value.before value.after value.stays;
        unset = λ is. absurd (true_is_not_false (sym adds.after ∙ is));
        within = twins.within;
        within_more = twins.within_more;
        fewer = twins.fewer;
      })
      h (same (Stops (Replies value) g) agree)
  by_next (Stops (Creates class) g) adds agree h =
      spends_both t.n t.m t.less (under t.n t.knows s) (under t.m t.more s) (with_frame (frame_seen before g) b) (with_frame (frame_seen after g) c) e f _ _
      (creates_counting t.n k (under t.n t.knows s) class) (creates_counting t.m l (under t.m t.more s) class) twins.within twins.within_more twins.fewer
      (λ one two j z. creates_meet t k l meet s class _ _ e f (turned (b.turns + 1) (c.turns + 1) (moved twins g adds.replied) one two (let fewer = twins.fewer in omega (arith, fewer))) j z) (past_meets e f)
      h (same (Stops (Creates class) g) agree)
  by_next (Stops (Ends line) g) adds agree h =
      over_meets t.n t.m end.Done b c _ _ g e f twins (missed_alike (missed_at s.image line s.member) b.result c.result twins.result) h (same (Stops (Ends line) g) agree)
  by_next (Stops Strays g) adds agree h =
      strays_meets b (or_missed (missed_at s.image 0 s.member) b.result) (frame_seen before g) e f (let fewer = twins.fewer in omega (arith, fewer, above)) h
  by_next (Stops (Traps trap) g) adds agree h =
      over_meets t.n t.m (end.Trap trap) b c _ _ g e f twins (trapped_alike s.member trap b.result c.result twins.result) h (same (Stops (Traps trap) g) agree)

pub exec_meets : (t : Tables) (k l : ℕ) → AllMeet t k l
exec_meets t zero l s b c e f twins h g = absurd (cc h)
exec_meets t (suc k) zero s b c e f twins h g = absurd (cc g)
exec_meets t (suc k) (suc l) s b c e f twins h g =
    act_meets t k l (exec_meets t k l) s b c e f twins
    (exec_counted c.turns t.m (suc l) (under t.m t.more s) c f refl (omega arith, twins.within_more) g).above (exec_grows (suc l) (under t.m t.more s) c f twins.unset g)
    (step shown_before (around s) twins.frame) (step_adds shown_before (around s) twins.frame)
    (step shown_after (around s) twins.frame) (more_seen shown_before after (λ value. value.stays) (around s) twins.frame)
    (ap (act (exec k) (under t.n t.knows s) b) (step_seen shown_before (λ words. refl) (around s) twins.frame ∙ ap (step in_place (around s)) twins.first) ∙ h)
    (ap (act (exec l) (under t.m t.more s) c) (step_seen shown_after (λ words. refl) (around s) twins.frame ∙ ap (step in_place (around s)) twins.second) ∙ g)
