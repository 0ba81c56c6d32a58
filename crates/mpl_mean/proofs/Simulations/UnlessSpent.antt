-- Two steps that do the same, unless the first runs out of turns.
use Rattle.std.proofs.Common.{◌≡◌, ℕ, zero, suc, ◌+◌, ◌≤◌, Bool, true, false, List, Option, Some, None, if◌then◌else◌, nat_lt, refl, ap, subst, arith}
use Rattle.std.proofs.lemmas.Bool.Decides.{nat_tests}
use Rattle.mpl_value.specs.declared.body.Arg.{Arg}
use Rattle.mpl_value.specs.declared.body.BodyEnd.{BodyEnd}
use Rattle.mpl_value.specs.declared.body.BodyEnd.TheVariants as end
use Rattle.mpl_value.specs.declared.known.Trap.{Trap}
use Rattle.mpl_mean.specs.Meaning.CallMeaning.{answer, unless_trapped}
use Rattle.mpl_value.specs.CallAnswers.{any_unknown, leftmost_trap}
use Rattle.mpl_mean.specs.Meaning.Layout.{Function, Member}
use Rattle.mpl_mean.specs.Meaning.StatementMeaning.{Effect, nothing, while_loop}
use Rattle.mpl_mean.specs.Meaning.Store.{Store, Outcome, Goes, Returns, Ends, Step, ◌>>=◌, ◌>>◌, and_then, stop, spend, trap, only_oldest, in_scope}
use Rattle.mpl_mean.specs.Meaning.Values.{Value, is_true}
use Rattle.mpl_mean.proofs.MoreReplies.ComesBack.{after_plain, after_regular}

abbrev pub is_spent_end : BodyEnd → Bool
is_spent_end end.Done = false
is_spent_end (end.Trap t) = false
is_spent_end end.Waits = false
is_spent_end end.Spent = true

abbrev pub is_spent : {A : Type 0} → Outcome A → Bool
is_spent (Goes value store) = false
is_spent (Returns words store) = false
is_spent (Ends e store) = is_spent_end e

abbrev pub Agrees : {A : Type 0} → Step A → Step A → Type 0
Agrees f g = (s : Store) → is_spent (f s) ≡ false → f s ≡ g s

-- ---- one step after another

then_same : {A B : Type 0} (o p : Outcome A) (h k : A → Step B) → (is_spent o ≡ false → o ≡ p) → ((a : A) → Agrees (h a) (k a))
    → is_spent (and_then o h) ≡ false → and_then o h ≡ and_then p k
then_same (Goes value store) p h k r q i = subst (λ p. and_then (Goes value store) h ≡ and_then p k) (r refl) (q value store i)
then_same (Returns words store) p h k r q i = subst (λ p. and_then (Returns words store) h ≡ and_then p k) (r refl) refl
then_same (Ends e store) p h k r q i = subst (λ p. and_then (Ends e store) h ≡ and_then p k) (r i) refl

pub then_agrees : {A B : Type 0} (f g : Step A) (h k : A → Step B) → Agrees f g → ((a : A) → Agrees (h a) (k a)) → Agrees (f >>= h) (g >>= k)
then_agrees f g h k r q s = then_same (f s) (g s) h k (r s) q

-- ---- turns

test_stays : (b c : Bool) (u v : Store) → (b ≡ true → c ≡ true) → let o : Outcome (Unit {0}) = if b then Goes tt u else Ends end.Spent v in
    let p : Outcome (Unit {0}) = if c then Goes tt u else Ends end.Spent v in is_spent o ≡ false → o ≡ p
test_stays true true u v r i = refl
test_stays true false u v r i = absurd (let e : false ≡ true = r refl in cc)
test_stays false c u v r i = absurd cc

pub spend_agrees : (n m : ℕ) → n ≤ m → Agrees (spend n) (spend m)
spend_agrees n m le s =
    test_stays (nat_lt s.turns n) (nat_lt s.turns m) (record s { turns = s.turns + 1 }) (record s { turns = s.turns + 1 }) (λ h. grind (arith, nat_tests))

-- a step that only runs out of turns
none_left : {A : Type 0} (b : Bool) (u v : Store) (g : Outcome A) → let o : Outcome (Unit {0}) = if b then Goes tt u else Ends end.Spent v in
    let q : Outcome A = and_then o (λ _. stop end.Spent) in is_spent q ≡ false → q ≡ g
none_left true u v g i = absurd cc
none_left false u v g i = absurd cc

pub none_agrees : {A : Type 0} (n : ℕ) (g : Step A) → Agrees (spend n >> stop end.Spent) g
none_agrees n g s = none_left (nat_lt s.turns n) (record s { turns = s.turns + 1 }) (record s { turns = s.turns + 1 }) (g s)

if_agrees : (test : Bool) (h k : Effect) → Agrees h k → Agrees (if test then h else nothing) (if test then k else nothing)
if_agrees true h k r = r
if_agrees false h k r = λ s i. refl

pub loop_agrees : (fuel more n m : ℕ) (f g : Step Value) (h k : Effect) → fuel ≤ more → n ≤ m → Agrees f g → Agrees h k → Agrees (while_loop fuel n f h) (while_loop more m g k)
loop_agrees zero more n m f g h k few le r q = λ s i. absurd cc
loop_agrees (suc fuel) zero n m f g h k few le r q = absurd (omega arith)
loop_agrees (suc fuel) (suc more) n m f g h k few le r q =
    then_agrees (spend n) (spend m) _ _ (spend_agrees n m le) (λ _.
    then_agrees f g _ _ r (λ v. if_agrees (is_true v) (h >> while_loop fuel n f h) (k >> while_loop more m g k)
    (then_agrees h k (λ _. while_loop fuel n f h) (λ _. while_loop more m g k) q (λ _. loop_agrees fuel more n m f g h k (omega arith) le r q))))

-- ---- scopes, calls and what they answer

spent_in_scope : {A : Type 0} (count : ℕ) (o : Outcome A) → is_spent (only_oldest count o) ≡ false → is_spent o ≡ false
spent_in_scope count (Goes value store) i = refl
spent_in_scope count (Returns words store) i = refl
spent_in_scope count (Ends e store) i = i

pub scope_agrees : {A : Type 0} (f g : Step A) → Agrees f g → Agrees (in_scope f) (in_scope g)
scope_agrees f g r s i = ap (only_oldest _) (r s (spent_in_scope _ (f s) i))

unless_agrees : (trap : Option Trap) (f g : Step Arg) → Agrees f g → Agrees (unless_trapped trap f) (unless_trapped trap g)
unless_agrees None f g r = r
unless_agrees (Some t) f g r = λ s i. refl

answer_of : (unknown : Bool) (trap : Option Trap) (f g h : Step Arg) → Agrees f g → Agrees (if unknown then h else unless_trapped trap f) (if unknown then h else unless_trapped trap g)
answer_of true trap f g h r = λ s i. refl
answer_of false trap f g h r = unless_agrees trap f g r

pub answer_agrees : (args : List Arg) (f g : Step Arg) → Agrees f g → Agrees (answer args f) (answer args g)
answer_agrees args f g r = answer_of (any_unknown args) (leftmost_trap args) f g _ r

pub spent_in_plain : (f : Function) (store : Store) (o : Outcome (Unit {0})) → is_spent (after_plain f store o) ≡ false → is_spent o ≡ false
spent_in_plain f store (Goes value after) i = refl
spent_in_plain f store (Returns words after) i = refl
spent_in_plain f store (Ends e after) i = i

pub spent_in_regular : (m : Member) (store : Store) (o : Outcome (Unit {0})) → is_spent (after_regular m store o) ≡ false → is_spent o ≡ false
spent_in_regular m store (Goes value after) i = refl
spent_in_regular m store (Returns words after) i = refl
spent_in_regular m store (Ends end.Done after) i = refl
spent_in_regular m store (Ends (end.Trap t) after) i = refl
spent_in_regular m store (Ends end.Waits after) i = refl
spent_in_regular m store (Ends end.Spent after) i = i
