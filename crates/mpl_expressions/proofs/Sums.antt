-- Sums over levels, where an operator of one level stands first.
use Rattle.std.proofs.Common.{◌≡◌, ℕ, zero, suc, ◌+◌, ◌-◌, ◌<◌, ◌≤◌, Bool, true, false, if◌then◌else◌, List, Some, refl, ap, ◌∙◌, arith, nat_le, nat_lt}
use Rattle.std.proofs.lemmas.Bool.Decides.{nat_tests}
use Rattle.mpl_ast.specs.declared.token.Token.{Token}
use Rattle.mpl_trees.specs.Ahead.{count, lead, tally}
use Rattle.mpl_trees.specs.declared.position.Position.TheVariants.{Before}
use Rattle.mpl_expressions.specs.Internal.Lead.{sum_from}

pub same : (low level : ℕ) (f g : ℕ → ℕ) → ((n : ℕ) → f n ≡ g n) → sum_from low level f ≡ sum_from low level g
same low zero f g h = refl
same low (suc n) f g h = let e = same low n f g h in let k = h n in rw (e, k) refl

pub none : (low level : ℕ) (f : ℕ → ℕ) → ((n : ℕ) → f n ≡ 0) → sum_from low level f ≡ 0
none low zero f h = refl
none low (suc n) f h = let e = none low n f h in let k = h n in grind (arith, nat_tests)

pub ended : (low level : ℕ) (f : ℕ → ℕ) → level ≤ low → sum_from low level f ≡ 0
ended low zero f h = refl
ended low (suc n) f h = let e = ended low n f (omega arith) in grind (arith, nat_tests)

-- no level below the operator's is counted on
pub past_all : (low level l : ℕ) (f : ℕ → ℕ) → level ≤ l → sum_from low level (λ n. tally n (Some l) (f n)) ≡ 0
past_all low zero l f h = refl
past_all low (suc n) l f h = let e = past_all low n l f (omega arith) in grind (arith, nat_tests)

pub above_all : (low level l : ℕ) (f : ℕ → ℕ) → l < low → sum_from low level (λ n. tally n (Some l) (f n)) ≡ sum_from low level f
above_all low zero l f h = refl
above_all low (suc n) l f h = let e = above_all low n l f h in grind (arith, nat_tests)

among_more : (low n l : ℕ) (f : ℕ → ℕ) → low ≤ l → l < n → sum_from low n (λ n. tally n (Some l) (f n)) ≡ suc (sum_from l n f)
    → sum_from low (suc n) (λ n. tally n (Some l) (f n)) ≡ suc (sum_from l (suc n) f)
among_more low n l f h k e = grind (arith, nat_tests)

among_first : (low l : ℕ) (f : ℕ → ℕ) → low ≤ l → sum_from low (suc l) (λ n. tally n (Some l) (f n)) ≡ suc (sum_from l (suc l) f)
among_first low l f h = let e = past_all low l l f (omega arith) in let k = ended l l f (omega arith) in grind (arith, nat_tests)

among_to : (low level k l : ℕ) (f : ℕ → ℕ) → low ≤ l → level ≡ suc (k + l) → sum_from low level (λ n. tally n (Some l) (f n)) ≡ suc (sum_from l level f)
among_to low level zero l f h e = let d : level ≡ suc l = omega arith in rw d (among_first low l f h)
among_to low level (suc k) l f h e =
    let d : level ≡ suc (suc (k + l)) = omega arith in rw d (among_more low (suc (k + l)) l f h (omega arith) (among_to low (suc (k + l)) k l f h refl))

-- the operator's level is the lowest that is counted on
pub among : (low level l : ℕ) (f : ℕ → ℕ) → low ≤ l → l < level → sum_from low level (λ n. tally n (Some l) (f n)) ≡ suc (sum_from l level f)
among low level l f h k = among_to low level (level - suc l) l f h (omega arith)

pub lead-is : (level : ℕ) (ts : List Token) → lead level ts ≡ sum_from 0 level (λ n. count n Before ts) + level
lead-is zero ts = refl
lead-is (suc n) ts = let e = lead-is n ts in grind (arith, nat_tests)
