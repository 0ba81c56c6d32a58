-- A run that begins with some turns spent, beside one that begins with none and has as many left.
use Rattle.std.proofs.Common.{◌≡◌, ℕ, zero, suc, ◌+◌, ◌<◌, ◌≤◌, Bool, true, false, if◌then◌else◌, nat_lt, refl, ap, ap₂, subst, ◌∙◌, arith, le_trans}
use Rattle.std.proofs.lemmas.Bool.Decides.{nat_tests}
use Rattle.mpl_value.specs.declared.body.BodyEnd.TheVariants as end
use Rattle.mpl_mean.specs.Meaning.StatementMeaning.{Effect, nothing, while_loop}
use Rattle.mpl_mean.specs.Meaning.Store.{Store, Outcome, Goes, Returns, Ends, Step, ◌>>=◌, ◌>>◌, and_then, spend, only_oldest, in_scope}
use Rattle.mpl_mean.specs.Meaning.Values.{Value, is_true}
use Rattle.mpl_mean.proofs.Allowance.Counted.{Counted, Exact, from_more, loop_counted, quiet, scope_counted, then_counted, turn_counted}

abbrev pub shift : ℕ → Store → Store
shift k s = record s { turns = s.turns + k }

abbrev pub shifted : ℕ → {A : Type 0} → Outcome A → Outcome A
shifted k (Goes value s) = Goes value (shift k s)
shifted k (Returns words s) = Returns words (shift k s)
shifted k (Ends e s) = Ends e (shift k s)

-- The first has spent so many turns more, from so many on within its allowance, and does the same.
pub record Shifts (left k low : ℕ) {A : Type 0} (f g : Step A) : Type 0 where
  pub counted : Counted (left + k) low f
  pub same : (t : Store) → low ≤ t.turns + k → t.turns ≤ left → f (shift k t) ≡ shifted k (g t)

pub shifts_from : (left k low more : ℕ) {A : Type 0} (f g : Step A) → low ≤ more → Shifts left k low f g → Shifts left k more f g
shifts_from left k low more f g le r = record { counted = from_more (left + k) low more f le r.counted; same = λ t from to. r.same t (le_trans le from) to }

-- ---- one step after another

then_same : (left k low : ℕ) {A B : Type 0} (s : Store) (h i : A → Step B) → ((a : A) → Shifts left k low (h a) (i a)) → low ≤ s.turns → (o : Outcome A) → Exact (left + k) s (shifted k o)
    → and_then (shifted k o) h ≡ shifted k (and_then o i)
then_same left k low s h i r from (Goes a u) e =
    let grows = e.grows in
    let exact = e.exact in
    (r a).same u (le_trans from grows) (omega arith)
then_same left k low s h i r from (Returns words u) e = refl
then_same left k low s h i r from (Ends x u) e = refl

pub then_shifts : (left k low : ℕ) {A B : Type 0} (f g : Step A) (h i : A → Step B) → Shifts left k low f g → ((a : A) → Shifts left k low (h a) (i a)) → Shifts left k low (f >>= h) (g >>= i)
then_shifts left k low f g h i r q = record {
  counted = then_counted (left + k) low f h r.counted (λ a. (q a).counted);
  same = λ t from to.
      let e = r.same t from to in
      ap (λ o. and_then o h) e ∙ then_same left k low (shift k t) h i q from (g t) (subst (λ o. Exact (left + k) (shift k t) o) e (r.counted (shift k t) from (omega arith)));
}

-- ---- turns

same_test : (t left k : ℕ) → nat_lt (t + k) (left + k) ≡ nat_lt t left
same_test t left k = by_tests (nat_lt (t + k) (left + k)) (nat_lt t left) refl refl where
  by_tests : (a b : Bool) → nat_lt (t + k) (left + k) ≡ a → nat_lt t left ≡ b → a ≡ b
  by_tests true true e h = refl
  by_tests false false e h = refl
  by_tests true false e h = absurd (grind (arith, nat_tests))
  by_tests false true e h = absurd (grind (arith, nat_tests))

pub next_turn : (k : ℕ) (t : Store) → ◌≡◌ {A = Store} (record t { turns = t.turns + k + 1 }) (shift k (record t { turns = t.turns + 1 }))
next_turn k t = ap (λ n. record t { turns = n }) (let e : t.turns + k + 1 ≡ t.turns + 1 + k = omega arith in e)

abbrev turn_then : {A : Type 0} → Bool → Store → Step A → Outcome A
turn_then b s rest = and_then {A = Unit {0}} (if b then Goes tt s else Ends end.Spent s) (λ _. rest)

-- a turn, and what comes behind it
pub turn_shifts : (left k low : ℕ) {A : Type 0} (f g : Step A) → Shifts left k (low + 1) f g → Shifts left k low (spend (left + k) >> f) (spend left >> g)
turn_shifts left k low {A} f g r = record {
  counted = turn_counted (left + k) low f r.counted;
  same = λ t from to.
      ap₂ (λ b s. turn_then b s f) (same_test t.turns left k) (next_turn k t) ∙ by_test t from (nat_lt t.turns left) refl;
} where
  by_test : (t : Store) → low ≤ t.turns + k → (b : Bool) → nat_lt t.turns left ≡ b
      → turn_then b (shift k (record t { turns = t.turns + 1 })) f ≡ shifted k (turn_then b (record t { turns = t.turns + 1 }) g)
  by_test t from true e = r.same (record t { turns = t.turns + 1 }) (omega arith) (grind (arith, nat_tests))
  by_test t from false e = refl

pub spend_same : (left k : ℕ) (t : Store) → spend (left + k) (shift k t) ≡ shifted k (spend left t)
spend_same left k t =
    ap₂ (λ b (s : Store). ends_or b s) (same_test t.turns left k) (next_turn k t) ∙ by_test (nat_lt t.turns left) (record t { turns = t.turns + 1 }) where
      ends_or : Bool → Store → Outcome (Unit {0})
      ends_or b s = if b then Goes tt s else Ends end.Spent s

      by_test : (b : Bool) (s : Store) → ends_or b (shift k s) ≡ shifted k (ends_or b s)
      by_test true s = refl
      by_test false s = refl

-- where no turn is left
pub none_left : {A : Type 0} (n : ℕ) (s : Store) (rest : Step A) → n ≤ s.turns → (spend n >> rest) s ≡ Ends end.Spent (record s { turns = s.turns + 1 })
none_left n s rest le = by_test (nat_lt s.turns n) refl where
  by_test : (b : Bool) → nat_lt s.turns n ≡ b → turn_then b (record s { turns = s.turns + 1 }) rest ≡ Ends end.Spent (record s { turns = s.turns + 1 })
  by_test true e = absurd (grind (arith, nat_tests))
  by_test false e = refl

-- ---- loops

if_shifts : (left k low : ℕ) (test : Bool) (h i : Effect) → Shifts left k low h i → Shifts left k low (if test then h else nothing) (if test then i else nothing)
if_shifts left k low true h i r = r
if_shifts left k low false h i r = record { counted = quiet (left + k) low nothing (λ s. (refl, refl)); same = λ t from to. refl }

pub loop_shifts : (fuel more left k low : ℕ) (f g : Step Value) (h i : Effect) → left + k < low + fuel → left + k < low + more → Shifts left k low f g → Shifts left k low h i
    → Shifts left k low (while_loop fuel (left + k) f h) (while_loop more left g i)
loop_shifts zero more left k low f g h i le few r q = record {
  counted = loop_counted zero (left + k) low f h le r.counted q.counted;
  same = λ t from to. absurd (omega arith);
}
loop_shifts (suc fuel) zero left k low f g h i le few r q = record {
  counted = loop_counted (suc fuel) (left + k) low f h le r.counted q.counted;
  same = λ t from to. absurd (omega arith);
}
loop_shifts (suc fuel) (suc more) left k low f g h i le few r q =
    let one : low ≤ low + 1 = omega arith in
    let r' = shifts_from left k low (low + 1) f g one r in
    let q' = shifts_from left k low (low + 1) h i one q in
    turn_shifts left k low (f >>= (λ v. if is_true v then (h >> while_loop fuel (left + k) f h) else nothing)) (g >>= (λ v. if is_true v then (i >> while_loop more left g i) else nothing))
    (then_shifts left k (low + 1) f g _ _ r' (λ v.
    if_shifts left k (low + 1) (is_true v) (h >> while_loop fuel (left + k) f h) (i >> while_loop more left g i)
    (then_shifts left k (low + 1) h i (λ _. while_loop fuel (left + k) f h) (λ _. while_loop more left g i) q' (λ _.
    loop_shifts fuel more left k (low + 1) f g h i (omega arith) (omega arith) r' q'))))

-- ---- scopes

scoped_same : (k count : ℕ) {A : Type 0} (o : Outcome A) → only_oldest count (shifted k o) ≡ shifted k (only_oldest count o)
scoped_same k count (Goes a s) = refl
scoped_same k count (Returns words s) = refl
scoped_same k count (Ends e s) = refl

pub scope_shifts : (left k low : ℕ) {A : Type 0} (f g : Step A) → Shifts left k low f g → Shifts left k low (in_scope f) (in_scope g)
scope_shifts left k low f g r = record {
  counted = scope_counted (left + k) low f r.counted;
  same = λ t from to. ap (only_oldest _) (r.same t from to) ∙ scoped_same k _ (g t);
}
