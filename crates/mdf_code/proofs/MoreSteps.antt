-- What more steps and more turns change of a run: nothing, unless it is spent.
use Rattle.std.proofs.Common.{◌≡◌, ◌≢◌, ◌≤◌, ◌+◌, ℕ, zero, suc, nat_lt, Bool, true, false, List, Option, Some, None, ℤ, cond, refl, sym, ap, ◌∙◌, subst, arith}
use Rattle.std.proofs.lemmas.Bool.{ltb-true, ltb-false}
use Rattle.std.specs.FinMap.{FinMap}
use Rattle.std.specs.Option.{option_map}
use Rattle.std.specs.Ordering.{nat_cmp}
use Rattle.mpl_value.specs.declared.body.Arg.{Arg}
use Rattle.mpl_value.specs.declared.body.BodyEnd.{BodyEnd}
use Rattle.mpl_value.specs.declared.body.BodyEnd.TheVariants as end
use Rattle.mpl_value.specs.declared.body.BodyStart.{BodyStart}
use Rattle.mpl_value.specs.declared.body.Yield.{Yield}
use Rattle.mpl_value.specs.declared.known.Known.{Known}
use Rattle.mpl_value.specs.declared.known.Trap.{Trap}
use Rattle.mdf_code.specs.declared.raw.RawImage.{RawImage}
use Rattle.mpl_value.specs.CallAnswers.{any_unknown, known_words, leftmost_trap}
use Rattle.mdf_code.specs.Frames.{Next, Goes, Spends, Stops, Stop, Calls, Creates, Ends, Needs, Replies, Strays, Traps}
use Rattle.mdf_code.specs.Steps.{step}
use Rattle.mdf_code.specs.Yields.{Body, Ended, Runs, Setting, act, around, at_stop, called_in_place, calls, comes_back, comes_back_at, creates, ends, exec, in_place, member_is_regular, regular_call, regular_setting, replies_of, run_of, setting_of, spends, start_body, unless_trapped, with_frame, yield_at, yield_under, Yields}

-- ---- two runs with so many turns each

-- the same, with other turns
abbrev pub at : ℕ → Setting → Setting
at turns s = record s { turns = turns }

-- where it is spent the two have the same turns
abbrev pub IsFine : ℕ → ℕ → Ended → Type 0
IsFine n m ended = ended.end ≡ end.Spent → n ≡ m

-- what the first comes to the second comes to
abbrev pub Keeps : ℕ → ℕ → Runs → Runs → Type 0
Keeps n m first second = (s : Setting) (b : Body) (e : Ended) → first (at n s) b ≡ Some e → IsFine n m e → second (at m s) b ≡ Some e

is_spent : (b : Body) (e : Ended) → ends end.Spent b ≡ Some e → e.end ≡ end.Spent
is_spent b e h = sym (ap (λ (o : Option Ended). end_or o) h) where
  end_or : Option Ended → BodyEnd
  end_or None = end.Done
  end_or (Some ended) = ended.end

pub spends_kept : (n m : ℕ) → n ≤ m → (s : Setting) (b : Body) (e : Ended) (next more : Body → Option Ended) →
    ((c : Body) → next c ≡ Some e → more c ≡ Some e) → spends (at n s) b next ≡ Some e → IsFine n m e → spends (at m s) b more ≡ Some e
spends_kept n m le s b e next more kept h fine = by_test (nat_lt b.turns n) refl (nat_lt b.turns m) refl where
  spent : Option Ended
  spent = ends end.Spent (record b { turns = b.turns + 1 })

  going : Body
  going = record b { turns = b.turns + 1 }

  by_test : (t : Bool) → nat_lt b.turns n ≡ t → (u : Bool) → nat_lt b.turns m ≡ u → spends (at m s) b more ≡ Some e
  by_test true is true also =
      ap (λ (t : Bool). cond t (more going) spent) also ∙ kept going (sym (ap (λ (t : Bool). cond t (next going) spent) is) ∙ h)
  by_test true is false also = absurd (omega (arith, ltb-true b.turns n is, ltb-false b.turns m also))
  by_test false is u also =
      let was : spent ≡ Some e = sym (ap (λ (t : Bool). cond t (next going) spent) is) ∙ h in
      let same : n ≡ m = fine (is_spent going e was) in
      subst (λ (k : ℕ). spends (at k s) b more ≡ Some e) same (ap (λ (t : Bool). cond t (more going) spent) is ∙ was)

branch_kept : (t : Bool) (a b c d : Option Ended) (e : Ended) → (a ≡ Some e → c ≡ Some e) → (b ≡ Some e → d ≡ Some e) → cond t a b ≡ Some e → cond t c d ≡ Some e
branch_kept true a b c d e one other h = one h
branch_kept false a b c d e one other h = other h

-- ---- calls

-- what comes back of two bodies of which the first's end is the second's
comes_back_kept : (n m : ℕ) (first second : Runs) → Keeps n m first second → (s : Setting) (member : ℕ) (b : Body) (e : Ended) (o p : Option Ended) →
    ((f : Ended) → o ≡ Some f → IsFine n m f → p ≡ Some f) →
    comes_back first (at n s) member b o ≡ Some e → IsFine n m e → comes_back second (at m s) member b p ≡ Some e
comes_back_kept n m first second keeps s member b e None p kept h fine = absurd (cc h)
comes_back_kept n m first second keeps s member b e (Some ended) p kept h fine = by_end ended.end refl h where
  back : (x : BodyEnd) → ended.end ≡ x → IsFine n m ended → comes_back_at second (at m s) member b ended x ≡ Some e → comes_back second (at m s) member b p ≡ Some e
  back x is ok g = ap (comes_back second (at m s) member b) (kept ended refl ok) ∙ (ap (comes_back_at second (at m s) member b ended) is ∙ g)

  by_end : (x : BodyEnd) → ended.end ≡ x → comes_back_at first (at n s) member b ended x ≡ Some e → comes_back second (at m s) member b p ≡ Some e
  by_end end.Done is g = back end.Done is (λ spent. absurd (cc (is, spent))) (keeps s _ e g fine)
  by_end (end.Trap t) is g = back (end.Trap t) is (λ spent. absurd (cc (is, spent))) (keeps s _ e g fine)
  by_end end.Waits is g = back end.Waits is (λ spent. absurd (cc (is, spent))) (keeps s _ e g fine)
  by_end end.Spent is g = back end.Spent is (λ spent. fine (is_spent _ e g)) g

called_kept : (n m : ℕ) (first second : Runs) → n ≤ m → Keeps n m first second → (s : Setting) (member : ℕ) (arguments : List (List ℤ)) (b : Body) (e : Ended) →
    called_in_place first (at n s) member arguments b ≡ Some e → IsFine n m e → called_in_place second (at m s) member arguments b ≡ Some e
called_kept n m first second le keeps s member arguments b e h fine =
    comes_back_kept n m first second keeps s member b e _ _
    (λ f k ok. spends_kept n m le s _ f _ _ (λ c g. keeps (regular_setting s member) c f g ok) k ok) h fine

unless_trapped_kept : (n m : ℕ) (first second : Runs) → Keeps n m first second → (s : Setting) (member : ℕ) (b : Body) (e : Ended) (t : Option Trap) (o p : Option Ended) →
    (o ≡ Some e → p ≡ Some e) → unless_trapped first (at n s) member b t o ≡ Some e → IsFine n m e → unless_trapped second (at m s) member b t p ≡ Some e
unless_trapped_kept n m first second keeps s member b e None o p kept h fine = kept h
unless_trapped_kept n m first second keeps s member b e (Some t) o p kept h fine = keeps s _ e h fine

regular_kept : (n m : ℕ) (first second : Runs) → n ≤ m → Keeps n m first second → (s : Setting) (member : ℕ) (arguments : List Arg) (answers : Option (ℕ → Arg)) (b : Body) (e : Ended) →
    regular_call first (at n s) member arguments answers b ≡ Some e → IsFine n m e → regular_call second (at m s) member arguments answers b ≡ Some e
regular_kept n m first second le keeps s member arguments (Some answers) b e h fine = keeps s _ e h fine
regular_kept n m first second le keeps s member arguments None b e h fine =
    branch_kept (any_unknown arguments) _ _ _ _ e (λ g. keeps s _ e g fine)
    (λ g. unless_trapped_kept n m first second keeps s member b e (leftmost_trap arguments) _ _
    (λ k. called_kept n m first second le keeps s member (known_words arguments) b e k fine) g fine) h

calls_kept : (n m : ℕ) (first second : Runs) → n ≤ m → Keeps n m first second → (s : Setting) (member : ℕ) (object : ℤ) (arguments : List Arg) (b : Body) (e : Ended) →
    calls first (at n s) member object arguments b ≡ Some e → IsFine n m e → calls second (at m s) member object arguments b ≡ Some e
calls_kept n m first second le keeps s member object arguments b e h fine =
    branch_kept (member_is_regular s.image member) _ _ _ _ e
    (λ g. regular_kept n m first second le keeps s member arguments s.answers _ e g fine) (λ g. keeps s _ e g fine) h

creates_kept : (n m : ℕ) (first second : Runs) → Keeps n m first second → (s : Setting) (class : ℕ) (b : Body) (e : Ended) →
    creates first (at n s) class b ≡ Some e → IsFine n m e → creates second (at m s) class b ≡ Some e
creates_kept n m first second keeps s class b e h fine = keeps s _ e h fine

-- ---- steps

stop_kept : (n m : ℕ) (first second : Runs) → n ≤ m → Keeps n m first second → (s : Setting) (b : Body) (stop : Stop Arg) (e : Ended) →
    at_stop first (at n s) b stop ≡ Some e → IsFine n m e → at_stop second (at m s) b stop ≡ Some e
stop_kept n m first second le keeps s b (Calls member object arguments) e h fine =
    spends_kept n m le s b e _ _ (λ c g. calls_kept n m first second le keeps s member object arguments c e g fine) h fine
stop_kept n m first second le keeps s b (Needs value) e h fine = h
stop_kept n m first second le keeps s b (Replies value) e h fine = keeps s _ e h fine
stop_kept n m first second le keeps s b (Creates class) e h fine = spends_kept n m le s b e _ _ (λ c g. creates_kept n m first second keeps s class c e g fine) h fine
stop_kept n m first second le keeps s b (Ends line) e h fine = h
stop_kept n m first second le keeps s b Strays e h fine = h
stop_kept n m first second le keeps s b (Traps t) e h fine = h

act_kept : (n m : ℕ) (first second : Runs) → n ≤ m → Keeps n m first second → (s : Setting) (b : Body) (next : Next Arg) (e : Ended) →
    act first (at n s) b next ≡ Some e → IsFine n m e → act second (at m s) b next ≡ Some e
act_kept n m first second le keeps s b (Goes f) e h fine = keeps s _ e h fine
act_kept n m first second le keeps s b (Spends f) e h fine = spends_kept n m le s (with_frame f b) e _ _ (λ c g. keeps s c e g fine) h fine
act_kept n m first second le keeps s b (Stops stop f) e h fine = stop_kept n m first second le keeps s (with_frame f b) stop e h fine

-- With no fewer steps and no fewer turns a run comes to the same end, unless it is spent with fewer turns.
pub exec_kept : (n m : ℕ) → n ≤ m → (k l : ℕ) → k ≤ l → Keeps n m (exec k) (exec l)
exec_kept n m le zero l longer s b e h fine = absurd (cc h)
exec_kept n m le (suc k) zero longer s b e h fine = absurd (omega arith)
exec_kept n m le (suc k) (suc l) longer s b e h fine =
    act_kept n m (exec k) (exec l) le (exec_kept n m le k l (omega arith)) s b (step in_place (around s) b.frame) e h fine

-- ---- yields

run_kept : (n m : ℕ) → n ≤ m → (k l : ℕ) → k ≤ l → (image : RawImage) (start : BodyStart) (replies : ℕ → Arg) (e : Ended) →
    run_of k (setting_of image start replies n) start ≡ Some e → IsFine n m e → run_of l (setting_of image start replies m) start ≡ Some e
run_kept n m le k l longer image start replies e h fine =
    spends_kept n m le (setting_of image start replies n) (start_body image start 0) e _ _
    (λ c g. exec_kept n m le k l longer (setting_of image start replies n) c e g fine) h fine

pub yields_kept : (n m : ℕ) → n ≤ m → (k l : ℕ) → k ≤ l → (image : RawImage) (start : BodyStart) (replies : ℕ → Arg) (y : Yield) →
    yield_under k image start replies n ≡ Some y → (y.end ≡ end.Spent → n ≡ m) → yield_under l image start replies m ≡ Some y
yields_kept n m le k l longer image start replies y h fine = by_run (run_of k (setting_of image start replies n) start) refl h where
  by_run : (o : Option Ended) → run_of k (setting_of image start replies n) start ≡ o → option_map yield_at o ≡ Some y → yield_under l image start replies m ≡ Some y
  by_run None is g = absurd (cc g)
  by_run (Some e) is g =
      let same : yield_at e ≡ y = cc in
      ap (option_map yield_at) (run_kept n m le k l longer image start replies e is (λ spent. fine (sym (ap (λ (z : Yield). z.end) same) ∙ spent))) ∙ g

pub more_turns : (image : RawImage) (start : BodyStart) (replies : FinMap nat_cmp Known) (n m : ℕ) (y : Yield) →
    Yields image start replies n y → y.end ≢ end.Spent → n ≤ m → Yields image start replies m y
more_turns image start replies n m y yields not_spent le = record {
  steps = yields.steps;
  within = yields_kept n m le yields.steps yields.steps (omega arith) image start (replies_of replies) y yields.within (λ spent. absurd (not_spent spent));
}

pub one_yield : (image : RawImage) (start : BodyStart) (replies : FinMap nat_cmp Known) (n : ℕ) (y z : Yield) →
    Yields image start replies n y → Yields image start replies n z → y ≡ z
one_yield image start replies n y z first second =
    let with_first : yield_under (first.steps + second.steps) image start (replies_of replies) n ≡ Some y =
    yields_kept n n (omega arith) first.steps (first.steps + second.steps) (omega arith) image start (replies_of replies) y first.within (λ _. refl) in
    let with_second : yield_under (first.steps + second.steps) image start (replies_of replies) n ≡ Some z =
    yields_kept n n (omega arith) second.steps (first.steps + second.steps) (omega arith) image start (replies_of replies) z second.within (λ _. refl) in
    some_is y z (sym with_first ∙ with_second) where
      some_is : (a b : Yield) → Some a ≡ Some b → a ≡ b
      some_is a b h = cc h
