-- A body in place beside its run alone: it begins with its caller's turns, and does the same with as many turns more.
use Rattle.std.proofs.Common.{◌≡◌, ◌≢◌, ◌≤◌, ◌<◌, ◌+◌, ◌-◌, ℕ, zero, suc, nat_lt, Bool, true, false, cond, List, Option, Some, None, ℤ, flat_map, refl, sym, ap, ◌∙◌, arith}
use Rattle.std.proofs.lemmas.Bool.{ltb-true, ltb-false, lt-ltb, le-ltb}
use Rattle.std.proofs.Math.Path.{fun_ext}
use Rattle.std.specs.FinMap.{empty, get-empty}
use Rattle.std.specs.Option.{option_map}
use Rattle.std.specs.Ordering.{nat_cmp}
use Rattle.mpl_value.specs.declared.body.Arg.{Arg}
use Rattle.mpl_value.specs.declared.body.Arg.TheVariants.{Unknown}
use Rattle.mpl_value.specs.declared.body.BodyEnd.{BodyEnd}
use Rattle.mpl_value.specs.declared.body.BodyEnd.TheVariants as end
use Rattle.mpl_value.specs.declared.body.Yield.{Yield}
use Rattle.mpl_value.specs.declared.known.Trap.{Trap}
use Rattle.mpl_value.specs.CallAnswers.{any_unknown, arg_of_reply, known_words, leftmost_trap}
use Rattle.mdf_code.specs.Frames.{Next, Goes, Spends, Stops, Stop, Calls, Creates, Ends, Needs, Replies, Strays, Traps}
use Rattle.mdf_code.specs.Right.{OwnYield}
use Rattle.mdf_code.specs.Steps.{step}
use Rattle.mdf_code.specs.Yields.{Body, Ended, Runs, Setting, act, around, at_stop, called_in_place, calls, comes_back, comes_back_at, creates, ends, exec, in_place, member_is_regular, regular_call, regular_setting, regular_start, replies_of, run_of, spends, start_body, unless_trapped, with_frame, yield_at, yield_under, yield_within}
use Rattle.mdf_code.proofs.CountedSteps.{IsCounted, exec_counted, spends_counted}
use Rattle.mdf_code.proofs.MoreSteps.{at}
use Rattle.mdf_code.proofs.SameRuns.{calls_counting, called_alone, creates_counting, ended_later, later}
use Rattle.mdf_code.proofs.TwoRuns.{Counting, ended_is, exec_counting}

-- ---- with more turns taken before

lt_later : (a b d : ℕ) → nat_lt (a + d) (b + d) ≡ nat_lt a b
lt_later a b d = by_test (nat_lt a b) refl where
  by_test : (t : Bool) → nat_lt a b ≡ t → nat_lt (a + d) (b + d) ≡ t
  by_test true is = lt-ltb (a + d) (b + d) (let below = ltb-true a b is in omega (arith, below))
  by_test false is = le-ltb (a + d) (b + d) (let above = ltb-false a b is in omega (arith, above))

abbrev all_later : ℕ → Option Ended → Option Ended
all_later d = option_map (ended_later d)

abbrev IsShifted : (d n : ℕ) → Runs → Type 0
IsShifted d n again = (s : Setting) (b : Body) → again (at (n + d) s) (later d b) ≡ all_later d (again (at n s) b)

pub spends_shifted : (d n : ℕ) (s : Setting) (b : Body) (next more : Body → Option Ended) → ((c : Body) → more (later d c) ≡ all_later d (next c)) →
    spends (at (n + d) s) (later d b) more ≡ all_later d (spends (at n s) b next)
spends_shifted d n s b next more each =
    ap (λ (turns : ℕ). cond (nat_lt (b.turns + d) (n + d)) (more (record b { turns = turns })) (ends end.Spent (record b { turns = turns }))) swapped
    ∙ (ap (λ (t : Bool). cond t (more (later d going)) (ends end.Spent (later d going))) (lt_later b.turns n d)
    ∙ by_test (nat_lt b.turns n)) where
      going : Body
      going = record b { turns = b.turns + 1 }

      swapped : b.turns + d + 1 ≡ b.turns + 1 + d
      swapped = omega arith

      by_test : (t : Bool) → cond t (more (later d going)) (ends end.Spent (later d going)) ≡ all_later d (cond t (next going) (ends end.Spent going))
      by_test true = each going
      by_test false = refl

branch_shifted : (d : ℕ) (t : Bool) (a b x y : Option Ended) → a ≡ all_later d x → b ≡ all_later d y → cond t a b ≡ all_later d (cond t x y)
branch_shifted d true a b x y one other = one
branch_shifted d false a b x y one other = other

back_shifted : (d n : ℕ) (again : Runs) → IsShifted d n again → (s : Setting) (member : ℕ) (b : Body) (o : Option Ended) →
    comes_back again (at (n + d) s) member (later d b) (all_later d o) ≡ all_later d (comes_back again (at n s) member b o)
back_shifted d n again shifted s member b None = refl
back_shifted d n again shifted s member b (Some ended) = by_end ended.end where
  by_end : (x : BodyEnd) → comes_back_at again (at (n + d) s) member (later d b) (ended_later d ended) x ≡ all_later d (comes_back_at again (at n s) member b ended x)
  by_end end.Done = shifted s _
  by_end (end.Trap t) = shifted s _
  by_end end.Waits = shifted s _
  by_end end.Spent = refl

alone_shifted : (d n : ℕ) (again : Runs) → IsShifted d n again → (s : Setting) (member : ℕ) (arguments : List (List ℤ)) (b : Body) →
    called_alone again (at (n + d) s) member arguments (later d b) ≡ all_later d (called_alone again (at n s) member arguments b)
alone_shifted d n again shifted s member arguments b =
    spends_shifted d n s (start_body s.image (regular_start member (flat_map (λ words. words) arguments)) b.turns) (again (regular_setting (at n s) member)) (again (regular_setting (at (n + d) s) member))
    (λ c. shifted (regular_setting s member) c)

regular_shifted : (d n : ℕ) (again : Runs) → IsShifted d n again → (s : Setting) (member : ℕ) (arguments : List Arg) (answers : Option (ℕ → Arg)) (b : Body) →
    regular_call again (at (n + d) s) member arguments answers (later d b) ≡ all_later d (regular_call again (at n s) member arguments answers b)
regular_shifted d n again shifted s member arguments (Some answers) b = shifted s _
regular_shifted d n again shifted s member arguments None b = branch_shifted d (any_unknown arguments) _ _ _ _ (shifted s _) (by_trap (leftmost_trap arguments)) where
  by_trap : (t : Option Trap) → unless_trapped again (at (n + d) s) member (later d b) t (called_in_place again (at (n + d) s) member (known_words arguments) (later d b))
      ≡ all_later d (unless_trapped again (at n s) member b t (called_in_place again (at n s) member (known_words arguments) b))
  by_trap (Some t) = shifted s _
  by_trap None = ap (comes_back again (at (n + d) s) member (later d b)) (alone_shifted d n again shifted s member (known_words arguments) b)
      ∙ back_shifted d n again shifted s member b (called_alone again (at n s) member (known_words arguments) b)

calls_shifted : (d n : ℕ) (again : Runs) → IsShifted d n again → (s : Setting) (member : ℕ) (object : ℤ) (arguments : List Arg) (b : Body) →
    calls again (at (n + d) s) member object arguments (later d b) ≡ all_later d (calls again (at n s) member object arguments b)
calls_shifted d n again shifted s member object arguments b =
    branch_shifted d (member_is_regular s.image member) _ _ _ _ (regular_shifted d n again shifted s member arguments s.answers (record b { sent = b.sent + 1 })) (shifted s _)

stop_shifted : (d n : ℕ) (again : Runs) → IsShifted d n again → (s : Setting) (b : Body) (stop : Stop Arg) → at_stop again (at (n + d) s) (later d b) stop ≡ all_later d (at_stop again (at n s) b stop)
stop_shifted d n again shifted s b (Calls member object arguments) =
    spends_shifted d n s b (calls again (at n s) member object arguments) (calls again (at (n + d) s) member object arguments) (λ c. calls_shifted d n again shifted s member object arguments c)
stop_shifted d n again shifted s b (Needs value) = refl
stop_shifted d n again shifted s b (Replies value) = shifted s _
stop_shifted d n again shifted s b (Creates class) = spends_shifted d n s b (creates again (at n s) class) (creates again (at (n + d) s) class) (λ c. shifted s _)
stop_shifted d n again shifted s b (Ends line) = refl
stop_shifted d n again shifted s b Strays = refl
stop_shifted d n again shifted s b (Traps t) = refl

act_shifted : (d n : ℕ) (again : Runs) → IsShifted d n again → (s : Setting) (b : Body) (next : Next Arg) → act again (at (n + d) s) (later d b) next ≡ all_later d (act again (at n s) b next)
act_shifted d n again shifted s b (Goes f) = shifted s _
act_shifted d n again shifted s b (Spends f) = spends_shifted d n s (with_frame f b) (again (at n s)) (again (at (n + d) s)) (λ c. shifted s c)
act_shifted d n again shifted s b (Stops stop f) = stop_shifted d n again shifted s (with_frame f b) stop

exec_shifted : (d n k : ℕ) → IsShifted d n (exec k)
exec_shifted d n zero s b = refl
exec_shifted d n (suc k) s b = act_shifted d n (exec k) (exec_shifted d n k) s b (step in_place (around s) b.frame)

-- ---- with any allowance that its turns are within

abbrev Fits : (n m : ℕ) → Runs → Type 0
Fits n m again = (s : Setting) (b : Body) (e : Ended) → b.turns ≤ n → again (at n s) b ≡ Some e → (e.end ≢ end.Spent) → e.body.turns ≤ m → again (at m s) b ≡ Some e

-- a turn of a run that isn't spent
pub spends_goes : (n : ℕ) (s : Setting) (b : Body) (e : Ended) (next : Body → Option Ended) → spends (at n s) b next ≡ Some e → (e.end ≢ end.Spent) → (b.turns < n) × (next (record b { turns = b.turns + 1 }) ≡ Some e)
spends_goes n s b e next h unspent = by_test (nat_lt b.turns n) refl where
  going : Body
  going = record b { turns = b.turns + 1 }

  by_test : (t : Bool) → nat_lt b.turns n ≡ t → (b.turns < n) × (next going ≡ Some e)
  by_test true is = (ltb-true b.turns n is, sym (ap (λ (t : Bool). cond t (next going) (ends end.Spent going)) is) ∙ h)
  by_test false is =
      absurd (unspent (sym (ap (λ (x : Ended). x.end) (ended_is end.Spent going e (sym (ap (λ (t : Bool). cond t (next going) (ends end.Spent going)) is) ∙ h)))))

pub goes_spends : (n : ℕ) (s : Setting) (b : Body) (next : Body → Option Ended) → b.turns < n → spends (at n s) b next ≡ next (record b { turns = b.turns + 1 })
goes_spends n s b next below =
    ap (λ (t : Bool). cond t (next (record b { turns = b.turns + 1 })) (ends end.Spent (record b { turns = b.turns + 1 }))) (lt-ltb b.turns n below)

spends_fits : (n m : ℕ) (s : Setting) (b : Body) (e : Ended) (next more : Body → Option Ended) → Counting n next → b.turns ≤ n →
    ((c : Body) → c.turns ≤ n → next c ≡ Some e → more c ≡ Some e) → spends (at n s) b next ≡ Some e → (e.end ≢ end.Spent) → e.body.turns ≤ m → spends (at m s) b more ≡ Some e
spends_fits n m s b e next more counts within each h unspent fits =
    let goes = spends_goes n s b e next h unspent in
    let below = goes.0 in
    let above = (counts (b.turns + 1) (record b { turns = b.turns + 1 }) e (omega arith, omega (arith, below)) goes.1).above in
    goes_spends m s b more (omega (arith, above, fits)) ∙ each (record b { turns = b.turns + 1 }) (omega (arith, below)) goes.1

branch_fits : (t : Bool) (a b c d : Option Ended) (e : Ended) → (a ≡ Some e → c ≡ Some e) → (b ≡ Some e → d ≡ Some e) → cond t a b ≡ Some e → cond t c d ≡ Some e
branch_fits true a b c d e one other h = one h
branch_fits false a b c d e one other h = other h

-- the callee's end, and then the caller's
back_fits : (n m k : ℕ) → Fits n m (exec k) → (s : Setting) (member : ℕ) (b : Body) (e : Ended) (o p : Option Ended) →
    ((x : Ended) → o ≡ Some x → (x.end ≢ end.Spent) → (x.body.turns ≤ n) × (x.body.turns ≤ m → p ≡ Some x)) →
    comes_back (exec k) (at n s) member b o ≡ Some e → (e.end ≢ end.Spent) → e.body.turns ≤ m → comes_back (exec k) (at m s) member b p ≡ Some e
back_fits n m k fits s member b e None p callee h unspent within = absurd (cc h)
back_fits n m k fits s member b e (Some x) p callee h unspent within = by_end x.end refl h where
  goes_on : (y : BodyEnd) → x.end ≡ y → (x.end ≢ end.Spent) → (c : Body) → c.turns ≡ x.body.turns → exec k (at n s) c ≡ Some e →
      (exec k (at m s) c ≡ Some e → comes_back_at (exec k) (at m s) member b x y ≡ Some e) → comes_back (exec k) (at m s) member b p ≡ Some e
  goes_on y is not_spent c same g again =
      let own = callee x refl not_spent in
      let below = own.0 in
      let above = (exec_counted x.body.turns n k (at n s) c e refl (omega (arith, same), omega (arith, same, below)) g).above in
      ap (comes_back (exec k) (at m s) member b) (own.1 (omega (arith, above, within)))
      ∙ (ap (comes_back_at (exec k) (at m s) member b x) is ∙ again (fits s c e (omega (arith, same, below)) g unspent within))

  by_end : (y : BodyEnd) → x.end ≡ y → comes_back_at (exec k) (at n s) member b x y ≡ Some e → comes_back (exec k) (at m s) member b p ≡ Some e
  by_end end.Done is g = goes_on end.Done is (λ spent. absurd (cc (is, spent))) _ refl g (λ j. j)
  by_end (end.Trap t) is g = goes_on (end.Trap t) is (λ spent. absurd (cc (is, spent))) _ refl g (λ j. j)
  by_end end.Waits is g = goes_on end.Waits is (λ spent. absurd (cc (is, spent))) _ refl g (λ j. j)
  by_end end.Spent is g = absurd (unspent (sym (ap (λ (x : Ended). x.end) (ended_is end.Spent _ e g))))

alone_fits : (n m k : ℕ) → Fits n m (exec k) → (s : Setting) (member : ℕ) (arguments : List (List ℤ)) (b : Body) (x : Ended) → b.turns ≤ n →
    called_alone (exec k) (at n s) member arguments b ≡ Some x → (x.end ≢ end.Spent) → (x.body.turns ≤ n) × (x.body.turns ≤ m → called_alone (exec k) (at m s) member arguments b ≡ Some x)
alone_fits n m k fits s member arguments b x within h unspent = (counted.within unspent, again) where
  first : Body
  first = start_body s.image (regular_start member (flat_map (λ words. words) arguments)) b.turns

  counted : IsCounted 0 n x
  counted = spends_counted 0 n (at n s) first x _ refl (omega arith, within) (λ c between g. exec_counted 0 n k (regular_setting (at n s) member) c x refl between g) h

  again : x.body.turns ≤ m → called_alone (exec k) (at m s) member arguments b ≡ Some x
  again most = spends_fits n m s first x _ _ (exec_counting n k (regular_setting s member)) within (λ c below g. fits (regular_setting s member) c x below g unspent most) h unspent most

regular_fits : (n m k : ℕ) → Fits n m (exec k) → (s : Setting) (member : ℕ) (arguments : List Arg) (answers : Option (ℕ → Arg)) (b : Body) (e : Ended) → b.turns ≤ n →
    regular_call (exec k) (at n s) member arguments answers b ≡ Some e → (e.end ≢ end.Spent) → e.body.turns ≤ m → regular_call (exec k) (at m s) member arguments answers b ≡ Some e
regular_fits n m k fits s member arguments (Some answers) b e within h unspent most = fits s _ e within h unspent most
regular_fits n m k fits s member arguments None b e within h unspent most =
    branch_fits (any_unknown arguments) _ _ _ _ e (λ g. fits s _ e within g unspent most) (by_trap (leftmost_trap arguments)) h where
      by_trap : (t : Option Trap) → unless_trapped (exec k) (at n s) member b t (called_in_place (exec k) (at n s) member (known_words arguments) b) ≡ Some e →
          unless_trapped (exec k) (at m s) member b t (called_in_place (exec k) (at m s) member (known_words arguments) b) ≡ Some e
      by_trap (Some t) g = fits s _ e within g unspent most
      by_trap None g = back_fits n m k fits s member b e _ _ (λ x is not_spent. alone_fits n m k fits s member (known_words arguments) b x within is not_spent) g unspent most

calls_fits : (n m k : ℕ) → Fits n m (exec k) → (s : Setting) (member : ℕ) (object : ℤ) (arguments : List Arg) (b : Body) (e : Ended) → b.turns ≤ n →
    calls (exec k) (at n s) member object arguments b ≡ Some e → (e.end ≢ end.Spent) → e.body.turns ≤ m → calls (exec k) (at m s) member object arguments b ≡ Some e
calls_fits n m k fits s member object arguments b e within h unspent most =
    branch_fits (member_is_regular s.image member) _ _ _ _ e (λ g. regular_fits n m k fits s member arguments s.answers (record b { sent = b.sent + 1 }) e within g unspent most)
    (λ g. fits s _ e within g unspent most) h

stop_fits : (n m k : ℕ) → Fits n m (exec k) → (s : Setting) (b : Body) (stop : Stop Arg) (e : Ended) → b.turns ≤ n →
    at_stop (exec k) (at n s) b stop ≡ Some e → (e.end ≢ end.Spent) → e.body.turns ≤ m → at_stop (exec k) (at m s) b stop ≡ Some e
stop_fits n m k fits s b (Calls member object arguments) e within h unspent most =
    spends_fits n m s b e _ _ (calls_counting n k s member object arguments) within (λ c below g. calls_fits n m k fits s member object arguments c e below g unspent most) h unspent most
stop_fits n m k fits s b (Needs value) e within h unspent most = h
stop_fits n m k fits s b (Replies value) e within h unspent most = fits s _ e within h unspent most
stop_fits n m k fits s b (Creates class) e within h unspent most =
    spends_fits n m s b e _ _ (creates_counting n k s class) within (λ c below g. fits s _ e below g unspent most) h unspent most
stop_fits n m k fits s b (Ends line) e within h unspent most = h
stop_fits n m k fits s b Strays e within h unspent most = h
stop_fits n m k fits s b (Traps t) e within h unspent most = h

act_fits : (n m k : ℕ) → Fits n m (exec k) → (s : Setting) (b : Body) (next : Next Arg) (e : Ended) → b.turns ≤ n →
    act (exec k) (at n s) b next ≡ Some e → (e.end ≢ end.Spent) → e.body.turns ≤ m → act (exec k) (at m s) b next ≡ Some e
act_fits n m k fits s b (Goes f) e within h unspent most = fits s _ e within h unspent most
act_fits n m k fits s b (Spends f) e within h unspent most =
    spends_fits n m s (with_frame f b) e _ _ (exec_counting n k s) within (λ c below g. fits s c e below g unspent most) h unspent most
act_fits n m k fits s b (Stops stop f) e within h unspent most = stop_fits n m k fits s (with_frame f b) stop e within h unspent most

exec_fits : (n m k : ℕ) → Fits n m (exec k)
exec_fits n m zero s b e within h unspent most = absurd (cc h)
exec_fits n m (suc k) s b e within h unspent most = act_fits n m k (exec_fits n m k) s b (step in_place (around s) b.frame) e within h unspent most

-- ---- a regular member's own yield, and its body in place

-- an end in place: that of the member's own run with so many turns more
pub record InPlace (k : ℕ) (s : Setting) (member : ℕ) (arguments : List (List ℤ)) (b : Body) (yield : Yield) : Type 0 where
  pub ended : Ended
  pub is : yield_at ended ≡ yield
  pub comes : called_alone (exec k) s member arguments b ≡ Some (ended_later b.turns ended)

abbrev own_run : ℕ → ℕ → Setting → ℕ → List (List ℤ) → Option Ended
own_run k n s member arguments = run_of k (at n (regular_setting s member)) (regular_start member (flat_map (λ words. words) arguments))

no_replies : replies_of empty ≡ (λ call. Unknown)
no_replies = fun_ext (λ call. ap arg_of_reply (get-empty nat_cmp call))

own_is : (k n : ℕ) (s : Setting) (member : ℕ) (arguments : List (List ℤ)) →
    yield_within k s.image (regular_start member (flat_map (λ words. words) arguments)) empty n ≡ option_map yield_at (own_run k n s member arguments)
own_is k n s member arguments = ap (λ (replies : ℕ → Arg). yield_under k s.image (regular_start member (flat_map (λ words. words) arguments)) replies n) no_replies

-- in place it is the run alone, with the turns that are left
alone_in_place : (k n : ℕ) (s : Setting) (member : ℕ) (arguments : List (List ℤ)) (b : Body) → b.turns ≤ n →
    called_alone (exec k) (at n s) member arguments b ≡ all_later b.turns (own_run k (n - b.turns) s member arguments)
alone_in_place k n s member arguments b within =
    sym (ap (λ (turns : ℕ). called_alone (exec k) (at turns s) member arguments (record b { turns = 0 + b.turns })) left
    ∙ ap (λ (turns : ℕ). called_alone (exec k) (at n s) member arguments (record b { turns = turns })) (omega arith))
    ∙ alone_shifted b.turns (n - b.turns) (exec k) (exec_shifted b.turns (n - b.turns) k) s member arguments (record b { turns = 0 }) where
      left : n - b.turns + b.turns ≡ n
      left = omega (arith, within)

pub came_to : (o : Option Ended) (y : Yield) → option_map yield_at o ≡ Some y → (e : Ended) × (o ≡ Some e) × (yield_at e ≡ y)
came_to None y h = absurd (cc h)
came_to (Some e) y h = (e, refl, cc)

later_of : (d : ℕ) (o : Option Ended) (x : Ended) → all_later d o ≡ Some x → (e : Ended) × (o ≡ Some e) × (ended_later d e ≡ x)
later_of d None x h = absurd (cc h)
later_of d (Some e) x h = (e, refl, cc)

-- what comes of a body in place, where it isn't spent, is its own yield
pub own_yield : (k n : ℕ) (s : Setting) (member : ℕ) (arguments : List (List ℤ)) (b : Body) (x : Ended) → b.turns ≤ n → called_alone (exec k) (at n s) member arguments b ≡ Some x → (x.end ≢ end.Spent) →
    (e : Ended) × OwnYield s.image member arguments (yield_at e) × (ended_later b.turns e ≡ x)
own_yield k n s member arguments b x within h unspent =
    let found = later_of b.turns (own_run k (n - b.turns) s member arguments) x (sym (alone_in_place k n s member arguments b within) ∙ h) in (
      found.0,
      record {
        turns = n - b.turns;
        yields = record { steps = k; within = own_is k (n - b.turns) s member arguments ∙ ap (option_map yield_at) found.1 };
        unspent = λ spent. unspent (sym (ap (λ (x : Ended). x.end) found.2) ∙ spent);
      },
      found.2,
    )

-- a member's own yield comes about in place, where its turns are left
pub in_place_of : (n : ℕ) (s : Setting) (member : ℕ) (arguments : List (List ℤ)) (b : Body) (yield : Yield) → OwnYield s.image member arguments yield → b.turns + yield.turns ≤ n →
    (k : ℕ) × InPlace k (at n s) member arguments b yield
in_place_of n s member arguments b yield own fits =
    let came = came_to (own_run own.yields.steps own.turns s member arguments) yield (sym (own_is own.yields.steps own.turns s member arguments) ∙ own.yields.within) in
    let turns : came.0.body.turns ≡ yield.turns = ap (λ (y : Yield). y.turns) came.2 in
    let unspent : (came.0.end ≢ end.Spent) = λ spent. own.unspent (sym (ap (λ (y : Yield). y.end) came.2) ∙ spent) in
    let again : own_run own.yields.steps (n - b.turns) s member arguments ≡ Some came.0 =
    spends_fits own.turns (n - b.turns) (regular_setting s member) (start_body s.image (regular_start member (flat_map (λ words. words) arguments)) 0) came.0 _ _
    (exec_counting own.turns own.yields.steps (regular_setting s member)) (omega arith)
    (λ c below g. exec_fits own.turns (n - b.turns) own.yields.steps (regular_setting s member) c came.0 below g unspent (omega (arith, turns, fits))) came.1 unspent (omega (arith, turns, fits)) in (
      own.yields.steps,
      record {
        ended = came.0;
        is = came.2;
        comes = alone_in_place own.yields.steps n s member arguments b (omega (arith, fits)) ∙ ap (all_later b.turns) again;
      },
    )
