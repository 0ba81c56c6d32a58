-- A run counts its turns: within its allowance, and one above it where it is spent.
use Rattle.std.proofs.Common.{◌≡◌, ◌≢◌, ◌≤◌, ◌+◌, ℕ, zero, suc, nat_lt, Bool, true, false, List, Option, Some, None, ℤ, cond, refl, sym, ap, ◌∙◌, subst, arith}
use Rattle.std.proofs.lemmas.Bool.{ltb-true, ltb-false}
use Rattle.std.specs.FinMap.{FinMap}
use Rattle.std.specs.Option.{option_map}
use Rattle.std.specs.Ordering.{nat_cmp}
use Rattle.mpl_value.specs.declared.body.Arg.{Arg}
use Rattle.mpl_value.specs.declared.body.BodyEnd.{BodyEnd}
use Rattle.mpl_value.specs.declared.body.BodyEnd.TheVariants as end
use Rattle.mpl_value.specs.declared.body.BodyStart.{BodyStart}
use Rattle.mpl_value.specs.declared.body.Yield.{Yield}
use Rattle.mpl_value.specs.declared.known.Known.{Known}
use Rattle.mpl_value.specs.declared.known.Trap.{Trap}
use Rattle.mpl_value.specs.CallAnswers.{any_unknown, leftmost_trap}
use Rattle.mdf_code.specs.declared.raw.RawImage.{RawImage}
use Rattle.mdf_code.specs.Frames.{Next, Goes, Spends, Stops, Stop, Calls, Creates, Ends, Needs, Replies, Strays, Traps}
use Rattle.mdf_code.specs.Steps.{step}
use Rattle.mdf_code.specs.Yields.{Body, Ended, Runs, Setting, act, around, at_stop, calls, comes_back, comes_back_at, creates, ends, exec, in_place, member_is_regular, regular_call, regular_setting, replies_of, run_of, setting_of, spends, start_body, unless_trapped, with_frame, yield_at, yield_under, Yields}

-- its turns are counted, from so many up to so many
pub record IsCounted (low n : ℕ) (e : Ended) : Type 0 where
  pub above : low ≤ e.body.turns
  pub within : e.end ≢ end.Spent → e.body.turns ≤ n
  pub spent : e.end ≡ end.Spent → e.body.turns ≡ n + 1

abbrev pub Between : (low n turns : ℕ) → Type 0
Between low n turns = (low ≤ turns) × (turns ≤ n)

-- where a body begins within its turns, its end is counted
abbrev pub Counts : ℕ → ℕ → Runs → Type 0
Counts low n again = (s : Setting) (b : Body) (e : Ended) → s.turns ≡ n → Between low n b.turns → again s b ≡ Some e → IsCounted low n e

at_end : (low n : ℕ) (x : BodyEnd) (b : Body) (e : Ended) → x ≢ end.Spent → Between low n b.turns → ends x b ≡ Some e → IsCounted low n e
at_end low n x b e not_spent le h =
    let is : Some (record { body = b; end = x }) ≡ Some e = h in
    let same : record { body = b; end = x } ≡ e = cc is in
    subst (IsCounted low n) same (record { above = le.0; within = λ _. le.1; spent = λ spent. absurd (not_spent spent) })

at_spent : (low n : ℕ) (b : Body) (e : Ended) → low ≤ b.turns → b.turns ≡ n + 1 → ends end.Spent b ≡ Some e → IsCounted low n e
at_spent low n b e above is h = subst (IsCounted low n) (some_is _ _ h) (record { above = above; within = λ other. absurd (other refl); spent = λ _. is }) where
  some_is : (a c : Ended) → Some a ≡ Some c → a ≡ c
  some_is a c h = cc h

pub spends_counted : (low n : ℕ) (s : Setting) (b : Body) (e : Ended) (next : Body → Option Ended) → s.turns ≡ n → Between low n b.turns →
    ((c : Body) → Between low n c.turns → next c ≡ Some e → IsCounted low n e) → spends s b next ≡ Some e → IsCounted low n e
spends_counted low n s b e next is le counts h = by_test (nat_lt b.turns s.turns) refl where
  going : Body
  going = record b { turns = b.turns + 1 }

  by_test : (t : Bool) → nat_lt b.turns s.turns ≡ t → IsCounted low n e
  by_test true test = counts going (omega (arith, le.0), (let below = ltb-true b.turns s.turns test in omega arith)) (sym (ap (λ (t : Bool). cond t (next going) (ends end.Spent going)) test) ∙ h)
  by_test false test = at_spent low n going e (omega (arith, le.0)) (let above = ltb-false b.turns s.turns test in omega (arith, le.1))
      (sym (ap (λ (t : Bool). cond t (next going) (ends end.Spent going)) test) ∙ h)

branch_counted : (low n : ℕ) (t : Bool) (a b : Option Ended) (e : Ended) → (a ≡ Some e → IsCounted low n e) → (b ≡ Some e → IsCounted low n e) → cond t a b ≡ Some e → IsCounted low n e
branch_counted low n true a b e one other h = one h
branch_counted low n false a b e one other h = other h

pub comes_back_counted : (low n : ℕ) (again : Runs) → Counts low n again → (s : Setting) (member : ℕ) (b : Body) (e : Ended) (o : Option Ended) → s.turns ≡ n →
    ((f : Ended) → o ≡ Some f → IsCounted low n f) → comes_back again s member b o ≡ Some e → IsCounted low n e
comes_back_counted low n again counts s member b e None is counted h = absurd (cc h)
comes_back_counted low n again counts s member b e (Some ended) is counted h = by_end ended.end refl h where
  by_end : (x : BodyEnd) → ended.end ≡ x → comes_back_at again s member b ended x ≡ Some e → IsCounted low n e
  by_end end.Done was g = counts s _ e is ((counted ended refl).above, (counted ended refl).within (λ spent. absurd (cc (was, spent)))) g
  by_end (end.Trap t) was g = counts s _ e is ((counted ended refl).above, (counted ended refl).within (λ spent. absurd (cc (was, spent)))) g
  by_end end.Waits was g = counts s _ e is ((counted ended refl).above, (counted ended refl).within (λ spent. absurd (cc (was, spent)))) g
  by_end end.Spent was g = at_spent low n _ e (counted ended refl).above ((counted ended refl).spent was) g

unless_trapped_counted : (low n : ℕ) (again : Runs) → Counts low n again → (s : Setting) (member : ℕ) (b : Body) (e : Ended) (t : Option Trap) (o : Option Ended) → s.turns ≡ n → Between low n b.turns →
    (o ≡ Some e → IsCounted low n e) → unless_trapped again s member b t o ≡ Some e → IsCounted low n e
unless_trapped_counted low n again counts s member b e None o is le counted h = counted h
unless_trapped_counted low n again counts s member b e (Some t) o is le counted h = counts s _ e is le h

regular_counted : (low n : ℕ) (again : Runs) → Counts low n again → (s : Setting) (member : ℕ) (arguments : List Arg) (answers : Option (ℕ → Arg)) (b : Body) (e : Ended) → s.turns ≡ n → Between low n b.turns →
    regular_call again s member arguments answers b ≡ Some e → IsCounted low n e
regular_counted low n again counts s member arguments (Some answers) b e is le h = counts s _ e is le h
regular_counted low n again counts s member arguments None b e is le h =
    branch_counted low n (any_unknown arguments) _ _ e (λ g. counts s _ e is le g)
    (λ g. unless_trapped_counted low n again counts s member b e (leftmost_trap arguments) _ is le
    (λ k. comes_back_counted low n again counts s member b e _ is
    (λ f j. spends_counted low n s _ f _ is le (λ c below i. counts (regular_setting s member) c f is below i) j) k) g) h

pub calls_counted : (low n : ℕ) (again : Runs) → Counts low n again → (s : Setting) (member : ℕ) (object : ℤ) (arguments : List Arg) (b : Body) (e : Ended) → s.turns ≡ n → Between low n b.turns →
    calls again s member object arguments b ≡ Some e → IsCounted low n e
calls_counted low n again counts s member object arguments b e is le h = branch_counted low n (member_is_regular s.image member) _ _ e
    (λ k. regular_counted low n again counts s member arguments s.answers _ e is le k) (λ k. counts s _ e is le k) h

pub creates_counted : (low n : ℕ) (again : Runs) → Counts low n again → (s : Setting) (class : ℕ) (b : Body) (e : Ended) → s.turns ≡ n → Between low n b.turns →
    creates again s class b ≡ Some e → IsCounted low n e
creates_counted low n again counts s class b e is le h = counts s _ e is le h

stop_counted : (low n : ℕ) (again : Runs) → Counts low n again → (s : Setting) (b : Body) (stop : Stop Arg) (e : Ended) → s.turns ≡ n → Between low n b.turns →
    at_stop again s b stop ≡ Some e → IsCounted low n e
stop_counted low n again counts s b (Calls member object arguments) e is le h =
    spends_counted low n s b e _ is le (λ c below g. calls_counted low n again counts s member object arguments c e is below g) h
stop_counted low n again counts s b (Needs value) e is le h = at_end low n end.Waits _ e (λ spent. absurd (cc spent)) le h
stop_counted low n again counts s b (Replies value) e is le h = counts s _ e is le h
stop_counted low n again counts s b (Creates class) e is le h = spends_counted low n s b e _ is le (λ c below g. creates_counted low n again counts s class c e is below g) h
stop_counted low n again counts s b (Ends line) e is le h = at_end low n end.Done _ e (λ spent. absurd (cc spent)) le h
stop_counted low n again counts s b Strays e is le h = at_end low n end.Done _ e (λ spent. absurd (cc spent)) le h
stop_counted low n again counts s b (Traps t) e is le h = at_end low n (end.Trap t) _ e (λ spent. absurd (cc spent)) le h

act_counted : (low n : ℕ) (again : Runs) → Counts low n again → (s : Setting) (b : Body) (next : Next Arg) (e : Ended) → s.turns ≡ n → Between low n b.turns →
    act again s b next ≡ Some e → IsCounted low n e
act_counted low n again counts s b (Goes f) e is le h = counts s _ e is le h
act_counted low n again counts s b (Spends f) e is le h = spends_counted low n s (with_frame f b) e _ is le (λ c below g. counts s c e is below g) h
act_counted low n again counts s b (Stops stop f) e is le h = stop_counted low n again counts s (with_frame f b) stop e is le h

pub exec_counted : (low n k : ℕ) → Counts low n (exec k)
exec_counted low n zero s b e is le h = absurd (cc h)
exec_counted low n (suc k) s b e is le h = act_counted low n (exec k) (exec_counted low n k) s b (step in_place (around s) b.frame) e is le h

pub at_most_one_above : (low n : ℕ) (e : Ended) → IsCounted low n e → e.body.turns ≤ n + 1
at_most_one_above low n e counted = by_end e.end refl where
  not_spent : (x : BodyEnd) → e.end ≡ x → (x ≡ end.Spent → ⊥) → e.body.turns ≤ n + 1
  not_spent x is other = let within = counted.within (λ spent. absurd (other (sym is ∙ spent))) in omega (arith, within)

  by_end : (x : BodyEnd) → e.end ≡ x → e.body.turns ≤ n + 1
  by_end end.Done is = not_spent end.Done is (λ h. absurd (cc h))
  by_end (end.Trap t) is = not_spent (end.Trap t) is (λ h. absurd (cc h))
  by_end end.Waits is = not_spent end.Waits is (λ h. absurd (cc h))
  by_end end.Spent is = let spent = counted.spent is in omega (arith, spent)

-- ---- yields

run_counted : (k : ℕ) (image : RawImage) (start : BodyStart) (replies : ℕ → Arg) (n : ℕ) (e : Ended) → run_of k (setting_of image start replies n) start ≡ Some e → IsCounted 0 n e
run_counted k image start replies n e h =
    spends_counted 0 n (setting_of image start replies n) (start_body image start 0) e _ refl (omega arith, omega arith)
    (λ c below g. exec_counted 0 n k (setting_of image start replies n) c e refl below g) h

record IsCountedYield (n : ℕ) (y : Yield) : Type 0 where
  within : y.end ≢ end.Spent → y.turns ≤ n
  spent : y.end ≡ end.Spent → y.turns ≡ n + 1

yield_counted : (k : ℕ) (image : RawImage) (start : BodyStart) (replies : ℕ → Arg) (n : ℕ) (y : Yield) → yield_under k image start replies n ≡ Some y → IsCountedYield n y
yield_counted k image start replies n y h = by_run (run_of k (setting_of image start replies n) start) refl h where
  by_run : (o : Option Ended) → run_of k (setting_of image start replies n) start ≡ o → option_map yield_at o ≡ Some y → IsCountedYield n y
  by_run None is g = absurd (cc g)
  by_run (Some e) is g =
      let same : yield_at e ≡ y = cc in
      let counted = run_counted k image start replies n e is in
      subst (IsCountedYield n) same (record { within = counted.within; spent = counted.spent })

pub within_counted : (image : RawImage) (start : BodyStart) (replies : FinMap nat_cmp Known) (n : ℕ) (y : Yield) → Yields image start replies n y → y.end ≢ end.Spent → y.turns ≤ n
within_counted image start replies n y yields = (yield_counted yields.steps image start (replies_of replies) n y yields.within).within

pub spent_counted : (image : RawImage) (start : BodyStart) (replies : FinMap nat_cmp Known) (n : ℕ) (y : Yield) → Yields image start replies n y → y.end ≡ end.Spent → y.turns ≡ n + 1
spent_counted image start replies n y yields = (yield_counted yields.steps image start (replies_of replies) n y yields.within).spent
