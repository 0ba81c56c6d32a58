-- A body that begins with more turns taken does the same with as many more turns.
use Rattle.std.proofs.Common.{◌≡◌, ◌≤◌, ◌+◌, ℕ, zero, suc, List, Option, Some, None, ℤ, flat_map, refl, sym, ap, ◌∙◌, subst, arith, ◌⊎◌, inl, inr}
use Rattle.mpl_value.specs.declared.body.Arg.{Arg}
use Rattle.mpl_value.specs.declared.body.BodyEnd.{BodyEnd}
use Rattle.mpl_value.specs.declared.body.BodyEnd.TheVariants as end
use Rattle.mpl_value.specs.declared.known.Trap.{Trap}
use Rattle.mpl_value.specs.CallAnswers.{any_unknown, known_words, leftmost_trap}
use Rattle.mdf_code.specs.Frames.{Next, Goes, Spends, Stops, Stop, Calls, Creates, Ends, Needs, Replies, Strays, Traps}
use Rattle.mdf_code.specs.Steps.{step}
use Rattle.mdf_code.specs.Yields.{Body, Ended, Runs, Setting, act, around, at_stop, called_in_place, calls, comes_back, comes_back_at, creates, ends, exec, in_place, member_is_regular, regular_call, regular_setting, regular_start, spends, start_body, unless_trapped, with_frame}
use Rattle.mdf_code.proofs.CountedSteps.{Between, IsCounted, calls_counted, creates_counted, exec_counted, spends_counted}
use Rattle.mdf_code.proofs.MoreSteps.{at}
use Rattle.mdf_code.proofs.TwoRuns.{Counting, IsPast, back_past, branch_both, ended_is, exec_counting, spends_both}

-- the same with so many more turns
abbrev pub later : ℕ → Body → Body
later d b = record b { turns = b.turns + d }

abbrev pub ended_later : ℕ → Ended → Ended
ended_later d e = record { body = later d e.body; end = e.end }

-- the second is the first with so many more turns, or one of them is spent
abbrev pub Alike : ℕ → Ended → Ended → Type 0
Alike d e f = (ended_later d e ≡ f) ⊎ IsPast e f

abbrev AreAlike : (n m d k l : ℕ) → Type 0
AreAlike n m d k l = (s : Setting) (b : Body) (e f : Ended) → b.turns ≤ n → b.turns + d ≤ m → exec k (at n s) b ≡ Some e → exec l (at m s) (later d b) ≡ Some f → Alike d e f

ended_alike : (d : ℕ) (x : BodyEnd) (b : Body) (e f : Ended) → ends x b ≡ Some e → ends x (later d b) ≡ Some f → Alike d e f
ended_alike d x b e f h g = inl (sym (ap (ended_later d) (ended_is x b e h)) ∙ ended_is x (later d b) f g)

spends_alike : (n m d : ℕ) → n ≤ m → (s : Setting) (b : Body) (e f : Ended) (next more : Body → Option Ended) → Counting n next → Counting m more → b.turns ≤ n → b.turns + d ≤ m →
    ((c : Body) → c.turns ≤ n → c.turns + d ≤ m → next c ≡ Some e → more (later d c) ≡ Some f → Alike d e f) → spends (at n s) b next ≡ Some e → spends (at m s) (later d b) more ≡ Some f → Alike d e f
spends_alike n m d less s b e f next more counts counts_more within within_more each h g =
    spends_both n m less s s b (later d b) e f next more counts counts_more within within_more (omega arith)
    (λ one two i j. each (record b { turns = b.turns + 1 }) one (omega (arith, two)) i (ap (λ (turns : ℕ). more (record b { turns = turns })) shifted ∙ j)) inr h g where
      shifted : b.turns + 1 + d ≡ b.turns + d + 1
      shifted = omega arith

-- ---- calls

back_alike : (n m d : ℕ) → n ≤ m → (k l : ℕ) → AreAlike n m d k l → (s : Setting) (member : ℕ) (b : Body) (x y e f : Ended) → IsCounted 0 n x → IsCounted 0 m y → Alike d x y →
    comes_back (exec k) (at n s) member b (Some x) ≡ Some e → comes_back (exec l) (at m s) member (later d b) (Some y) ≡ Some f → Alike d e f
back_alike n m d less k l alike s member b x y e f counted counted_more (inr past) h g = inr (back_past n m less k l s s member b (later d b) x y e f counted counted_more past h g)
back_alike n m d less k l alike s member b x y e f counted counted_more (inl same) h g =
    by_end x.end refl h (ap (λ (z : Ended). comes_back (exec l) (at m s) member (later d b) (Some z)) same ∙ g) where
      back : Body
      back = record b { turns = x.body.turns }

      more : IsCounted 0 m (ended_later d x)
      more = subst (IsCounted 0 m) (sym same) counted_more

      by_end : (o : BodyEnd) → x.end ≡ o → comes_back_at (exec k) (at n s) member b x o ≡ Some e → comes_back_at (exec l) (at m s) member (later d b) (ended_later d x) x.end ≡ Some f → Alike d e f
      by_end end.Done is i j = alike s _ e f (counted.within (λ spent. absurd (cc (is, spent)))) (more.within (λ spent. absurd (cc (is, spent)))) i
          (sym (ap (comes_back_at (exec l) (at m s) member (later d b) (ended_later d x)) is) ∙ j)
      by_end (end.Trap t) is i j = alike s _ e f (counted.within (λ spent. absurd (cc (is, spent)))) (more.within (λ spent. absurd (cc (is, spent)))) i
          (sym (ap (comes_back_at (exec l) (at m s) member (later d b) (ended_later d x)) is) ∙ j)
      by_end end.Waits is i j = alike s _ e f (counted.within (λ spent. absurd (cc (is, spent)))) (more.within (λ spent. absurd (cc (is, spent)))) i
          (sym (ap (comes_back_at (exec l) (at m s) member (later d b) (ended_later d x)) is) ∙ j)
      by_end end.Spent is i j = ended_alike d end.Spent back e f i (sym (ap (comes_back_at (exec l) (at m s) member (later d b) (ended_later d x)) is) ∙ j)

-- a body called in place, for itself
abbrev pub called_alone : Runs → Setting → ℕ → List (List ℤ) → Body → Option Ended
called_alone again s member arguments b = spends s (start_body s.image (regular_start member (flat_map (λ words. words) arguments)) b.turns) (again (regular_setting s member))

alone_alike : (n m d : ℕ) → n ≤ m → (k l : ℕ) → AreAlike n m d k l → (s : Setting) (member : ℕ) (arguments : List (List ℤ)) (b : Body) (x y : Ended) → b.turns ≤ n → b.turns + d ≤ m →
    called_alone (exec k) (at n s) member arguments b ≡ Some x → called_alone (exec l) (at m s) member arguments (later d b) ≡ Some y → Alike d x y
alone_alike n m d less k l alike s member arguments b x y within within_more h g =
    spends_alike n m d less s (start_body s.image (regular_start member (flat_map (λ words. words) arguments)) b.turns) x y _ _
    (exec_counting n k (regular_setting s member)) (exec_counting m l (regular_setting s member)) within within_more (λ c one two i j. alike (regular_setting s member) c x y one two i j) h g

pub alone_counted : (low n k : ℕ) (s : Setting) (member : ℕ) (arguments : List (List ℤ)) (b : Body) (x : Ended) → Between low n b.turns → called_alone (exec k) (at n s) member arguments b ≡ Some x → IsCounted low n x
alone_counted low n k s member arguments b x between h =
    spends_counted low n (at n s) _ x _ refl between (λ c between g. exec_counted low n k (regular_setting (at n s) member) c x refl between g) h

called_alike : (n m d : ℕ) → n ≤ m → (k l : ℕ) → AreAlike n m d k l → (s : Setting) (member : ℕ) (arguments : List (List ℤ)) (b : Body) (e f : Ended) → b.turns ≤ n → b.turns + d ≤ m →
    called_in_place (exec k) (at n s) member arguments b ≡ Some e → called_in_place (exec l) (at m s) member arguments (later d b) ≡ Some f → Alike d e f
called_alike n m d less k l alike s member arguments b e f within within_more h g =
    by_calls (called_alone (exec k) (at n s) member arguments b) refl (called_alone (exec l) (at m s) member arguments (later d b)) refl h g where
      by_calls : (o : Option Ended) → called_alone (exec k) (at n s) member arguments b ≡ o → (p : Option Ended) → called_alone (exec l) (at m s) member arguments (later d b) ≡ p →
          comes_back (exec k) (at n s) member b o ≡ Some e → comes_back (exec l) (at m s) member (later d b) p ≡ Some f → Alike d e f
      by_calls None is p also i j = absurd (cc i)
      by_calls (Some x) is None also i j = absurd (cc j)
      by_calls (Some x) is (Some y) also i j =
          back_alike n m d less k l alike s member b x y e f (alone_counted 0 n k s member arguments b x (omega arith, within) is) (alone_counted 0 m l s member arguments (later d b) y (omega arith, within_more) also)
          (alone_alike n m d less k l alike s member arguments b x y within within_more is also) i j

unless_trapped_alike : (n m d k l : ℕ) → AreAlike n m d k l → (s : Setting) (member : ℕ) (b : Body) (e f : Ended) (t : Option Trap) (o p : Option Ended) → b.turns ≤ n → b.turns + d ≤ m →
    (o ≡ Some e → p ≡ Some f → Alike d e f) → unless_trapped (exec k) (at n s) member b t o ≡ Some e → unless_trapped (exec l) (at m s) member (later d b) t p ≡ Some f → Alike d e f
unless_trapped_alike n m d k l alike s member b e f None o p within within_more each h g = each h g
unless_trapped_alike n m d k l alike s member b e f (Some t) o p within within_more each h g = alike s _ e f within within_more h g

regular_alike : (n m d : ℕ) → n ≤ m → (k l : ℕ) → AreAlike n m d k l → (s : Setting) (member : ℕ) (arguments : List Arg) (answers : Option (ℕ → Arg)) (b : Body) (e f : Ended) → b.turns ≤ n → b.turns + d ≤ m →
    regular_call (exec k) (at n s) member arguments answers b ≡ Some e → regular_call (exec l) (at m s) member arguments answers (later d b) ≡ Some f → Alike d e f
regular_alike n m d less k l alike s member arguments (Some answers) b e f within within_more h g = alike s _ e f within within_more h g
regular_alike n m d less k l alike s member arguments None b e f within within_more h g =
    branch_both (any_unknown arguments) _ _ _ _ e f (λ i j. alike s _ e f within within_more i j)
    (λ i j. unless_trapped_alike n m d k l alike s member b e f (leftmost_trap arguments) _ _ within within_more
    (λ i j. called_alike n m d less k l alike s member (known_words arguments) b e f within within_more i j) i j) h g

calls_alike : (n m d : ℕ) → n ≤ m → (k l : ℕ) → AreAlike n m d k l → (s : Setting) (member : ℕ) (object : ℤ) (arguments : List Arg) (b : Body) (e f : Ended) → b.turns ≤ n → b.turns + d ≤ m →
    calls (exec k) (at n s) member object arguments b ≡ Some e → calls (exec l) (at m s) member object arguments (later d b) ≡ Some f → Alike d e f
calls_alike n m d less k l alike s member object arguments b e f within within_more h g =
    branch_both (member_is_regular s.image member) _ _ _ _ e f
    (λ i j. regular_alike n m d less k l alike s member arguments s.answers (record b { sent = b.sent + 1 }) e f within within_more i j)
    (λ i j. alike s _ e f within within_more i j) h g

-- ---- steps

pub calls_counting : (n k : ℕ) (s : Setting) (member : ℕ) (object : ℤ) (arguments : List Arg) → Counting n (calls (exec k) (at n s) member object arguments)
calls_counting n k s member object arguments low b e between h = calls_counted low n (exec k) (exec_counted low n k) (at n s) member object arguments b e refl between h

pub creates_counting : (n k : ℕ) (s : Setting) (class : ℕ) → Counting n (creates (exec k) (at n s) class)
creates_counting n k s class low b e between h = creates_counted low n (exec k) (exec_counted low n k) (at n s) class b e refl between h

stop_alike : (n m d : ℕ) → n ≤ m → (k l : ℕ) → AreAlike n m d k l → (s : Setting) (b : Body) (stop : Stop Arg) (e f : Ended) → b.turns ≤ n → b.turns + d ≤ m →
    at_stop (exec k) (at n s) b stop ≡ Some e → at_stop (exec l) (at m s) (later d b) stop ≡ Some f → Alike d e f
stop_alike n m d less k l alike s b (Calls member object arguments) e f within within_more h g =
    spends_alike n m d less s b e f _ _ (calls_counting n k s member object arguments) (calls_counting m l s member object arguments) within within_more
    (λ c one two i j. calls_alike n m d less k l alike s member object arguments c e f one two i j) h g
stop_alike n m d less k l alike s b (Needs value) e f within within_more h g = ended_alike d end.Waits _ e f h g
stop_alike n m d less k l alike s b (Replies value) e f within within_more h g = alike s _ e f within within_more h g
stop_alike n m d less k l alike s b (Creates class) e f within within_more h g =
    spends_alike n m d less s b e f _ _ (creates_counting n k s class) (creates_counting m l s class) within within_more (λ c one two i j. alike s _ e f one two i j) h g
stop_alike n m d less k l alike s b (Ends line) e f within within_more h g = ended_alike d end.Done _ e f h g
stop_alike n m d less k l alike s b Strays e f within within_more h g = ended_alike d end.Done _ e f h g
stop_alike n m d less k l alike s b (Traps t) e f within within_more h g = ended_alike d (end.Trap t) _ e f h g

act_alike : (n m d : ℕ) → n ≤ m → (k l : ℕ) → AreAlike n m d k l → (s : Setting) (b : Body) (next : Next Arg) (e f : Ended) → b.turns ≤ n → b.turns + d ≤ m →
    act (exec k) (at n s) b next ≡ Some e → act (exec l) (at m s) (later d b) next ≡ Some f → Alike d e f
act_alike n m d less k l alike s b (Goes g) e f within within_more h i = alike s _ e f within within_more h i
act_alike n m d less k l alike s b (Spends g) e f within within_more h i =
    spends_alike n m d less s (with_frame g b) e f _ _ (exec_counting n k s) (exec_counting m l s) within within_more (λ c one two i j. alike s c e f one two i j) h i
act_alike n m d less k l alike s b (Stops stop g) e f within within_more h i = stop_alike n m d less k l alike s (with_frame g b) stop e f within within_more h i

exec_alike : (n m d : ℕ) → n ≤ m → (k l : ℕ) → AreAlike n m d k l
exec_alike n m d less zero l s b e f within within_more h g = absurd (cc h)
exec_alike n m d less (suc k) zero s b e f within within_more h g = absurd (cc g)
exec_alike n m d less (suc k) (suc l) s b e f within within_more h g =
    act_alike n m d less k l (exec_alike n m d less k l) s b (step in_place (around s) b.frame) e f within within_more h g

pub called_twice : (n m d : ℕ) → n ≤ m → (k l : ℕ) (s : Setting) (member : ℕ) (arguments : List (List ℤ)) (b : Body) (x y : Ended) → b.turns ≤ n → b.turns + d ≤ m →
    called_alone (exec k) (at n s) member arguments b ≡ Some x → called_alone (exec l) (at m s) member arguments (later d b) ≡ Some y → Alike d x y
called_twice n m d less k l = alone_alike n m d less k l (exec_alike n m d less k l)
