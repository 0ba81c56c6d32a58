-- How the turns of a body are counted: they never fall, and stay within the allowance unless the body is spent.
use Rattle.std.proofs.Common.{◌≡◌, ℕ, zero, suc, ◌+◌, ◌<◌, ◌≤◌, Bool, true, false, if◌then◌else◌, nat_lt, refl, sym, subst, arith, le_trans}
use Rattle.std.proofs.lemmas.Bool.Decides.{nat_tests}
use Rattle.mpl_value.specs.declared.body.BodyEnd.TheVariants as end
use Rattle.mpl_mean.specs.Meaning.StatementMeaning.{Effect, nothing, while_loop}
use Rattle.mpl_mean.specs.Meaning.Store.{Store, Outcome, Goes, Returns, Ends, Step, ◌>>=◌, ◌>>◌, and_then, spend, only_oldest, in_scope}
use Rattle.mpl_mean.specs.Meaning.Values.{Value, is_true}
use Rattle.mpl_mean.proofs.MoreReplies.Follows.{store_after}
use Rattle.mpl_mean.proofs.Simulations.UnlessSpent.{is_spent}

-- one more than the allowance where a body is spent, and else no more than that
abbrev pub AreExact : ℕ → Bool → ℕ → Type 0
AreExact n true turns = turns ≡ n + 1
AreExact n false turns = turns ≤ n

pub record Exact (n : ℕ) {A : Type 0} (s : Store) (o : Outcome A) : Type 0 where
  pub grows : s.turns ≤ (store_after o).turns
  pub exact : AreExact n (is_spent o) (store_after o).turns

-- from each store with so many turns or more, within the allowance
abbrev pub Counted : ℕ → ℕ → {A : Type 0} → Step A → Type 0
Counted n low f = (s : Store) → low ≤ s.turns → s.turns ≤ n → Exact n s (f s)

-- a step that takes no turn
pub quiet : (n low : ℕ) {A : Type 0} (f : Step A) → ((s : Store) → (is_spent (f s) ≡ false) × ((store_after (f s)).turns ≡ s.turns)) → Counted n low f
quiet n low f h s from to =
    let i = (h s).1 in
    record { grows = omega (arith, i); exact = subst (λ b. AreExact n b (store_after (f s)).turns) (sym (h s).0) (omega (arith, i)) }

pub from_more : (n low more : ℕ) {A : Type 0} (f : Step A) → low ≤ more → Counted n low f → Counted n more f
from_more n low more f le r s from to = r s (le_trans le from) to

-- ---- one step after another

then_exact : (n low : ℕ) {A B : Type 0} (s : Store) (h : A → Step B) → ((a : A) → Counted n low (h a)) → low ≤ s.turns → (o : Outcome A) → Exact n s o → Exact n s (and_then o h)
then_exact n low s h r from (Goes a t) e =
    let i = r a t (le_trans from e.grows) e.exact in record { grows = le_trans e.grows i.grows; exact = i.exact }
then_exact n low s h r from (Returns words t) e = record { grows = e.grows; exact = e.exact }
then_exact n low s h r from (Ends x t) e = record { grows = e.grows; exact = e.exact }

pub then_counted : (n low : ℕ) {A B : Type 0} (f : Step A) (h : A → Step B) → Counted n low f → ((a : A) → Counted n low (h a)) → Counted n low (f >>= h)
then_counted n low f h r q s from to = then_exact n low s h q from (f s) (r s from to)

-- ---- turns

-- what comes behind a turn has one more
pub turn_counted : (n low : ℕ) {A : Type 0} (rest : Step A) → Counted n (low + 1) rest → Counted n low (spend n >> rest)
turn_counted n low {A} rest r s from to = by_test (nat_lt s.turns n) refl where
  by_test : (b : Bool) → nat_lt s.turns n ≡ b
      → Exact n s (and_then {A = Unit {0}} (if b then Goes tt (record s { turns = s.turns + 1 }) else Ends end.Spent (record s { turns = s.turns + 1 })) (λ _. rest))
  by_test true e =
      let i = r (record s { turns = s.turns + 1 }) (omega arith) (grind (arith, nat_tests)) in
      let j = i.grows in
      record { grows = omega (arith, j); exact = i.exact }
  by_test false e = record { grows = omega arith; exact = grind (arith, nat_tests) }

pub spend_counted : (n low : ℕ) → Counted n low (spend n)
spend_counted n low s from to = by_test (nat_lt s.turns n) refl where
  by_test : (b : Bool) → nat_lt s.turns n ≡ b
      → Exact n {A = Unit {0}} s (if b then Goes tt (record s { turns = s.turns + 1 }) else Ends end.Spent (record s { turns = s.turns + 1 }))
  by_test true e = record { grows = omega arith; exact = grind (arith, nat_tests) }
  by_test false e = record { grows = omega arith; exact = grind (arith, nat_tests) }

if_counted : (n low : ℕ) (test : Bool) (h : Effect) → Counted n low h → Counted n low (if test then h else nothing)
if_counted n low true h r = r
if_counted n low false h r = quiet n low nothing (λ s. (refl, refl))

pub loop_counted : (fuel n low : ℕ) (f : Step Value) (h : Effect) → n < low + fuel → Counted n low f → Counted n low h → Counted n low (while_loop fuel n f h)
loop_counted zero n low f h le r q = λ s from to. absurd (omega arith)
loop_counted (suc fuel) n low f h le r q =
    let one : low ≤ low + 1 = omega arith in
    turn_counted n low (f >>= (λ v. if is_true v then (h >> while_loop fuel n f h) else nothing))
    (then_counted n (low + 1) f _ (from_more n low (low + 1) f one r) (λ v.
    if_counted n (low + 1) (is_true v) (h >> while_loop fuel n f h)
    (then_counted n (low + 1) h (λ _. while_loop fuel n f h) (from_more n low (low + 1) h one q) (λ _.
    loop_counted fuel n (low + 1) f h (omega arith) (from_more n low (low + 1) f one r) (from_more n low (low + 1) h one q)))))

-- ---- scopes

scoped_exact : (n count : ℕ) {A : Type 0} (s : Store) (o : Outcome A) → Exact n s o → Exact n s (only_oldest count o)
scoped_exact n count s (Goes a t) e = record { grows = e.grows; exact = e.exact }
scoped_exact n count s (Returns words t) e = record { grows = e.grows; exact = e.exact }
scoped_exact n count s (Ends x t) e = record { grows = e.grows; exact = e.exact }

pub scope_counted : (n low : ℕ) {A : Type 0} (f : Step A) → Counted n low f → Counted n low (in_scope f)
scope_counted n low f r s from to = scoped_exact n _ s (f s) (r s from to)
