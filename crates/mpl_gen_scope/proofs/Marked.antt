-- A node is marked where a search finds it.
use Rattle.std.proofs.Common.{◌≡◌, ◌≤◌, ◌<◌, ℕ, zero, suc, Bool, true, false, ◌||◌, List, [], ◌∷◌, length, Result, Ok, Err, arith, nat_eq, eqb-true, ◌⊎◌, inl, inr, refl, ap, sym, ◌∙◌}
use Rattle.std.proofs.lemmas.Bool.{cases_lt, eq-eqb}
use Rattle.std.specs.Prelude.{is_ok}
use Rattle.std.specs.List.Sorted.{IsBinarySearchResult, IsNonDecreasing}
use Rattle.std.specs.Ordering.{nat_cmp}
use Rattle.std.proofs.lemmas.List.Sorted.{searched}
use Rattle.std.proofs.Math.ListN.{get_or}
use Rattle.mpl_gen_scope.specs.SeenMarks.{marked}

or_right : (a b : Bool) → b ≡ true → (a || b) ≡ true
or_right true b h = refl
or_right false b h = h

or_none : (a b : Bool) → (a ≡ true → ⊥) → b ≡ false → (a || b) ≡ false
or_none true b h k = absurd (h refl)
or_none false b h k = k

found : (xs : List ℕ) (x i : ℕ) → i < length xs → get_or xs i 0 ≡ x → marked xs x ≡ true
found [] x i h e = absurd (let e : ⊥ = omega arith in e)
found (y ∷ xs) x zero h e = ap (λ a. nat_eq x a || marked xs x) e ∙ ap (λ b. b || marked xs x) (eq-eqb x x refl)
found (y ∷ xs) x (suc i) h e = or_right (nat_eq x y) (marked xs x) (found xs x i (let e : i < length xs = omega arith in e) e)

nowhere : (xs : List ℕ) (x : ℕ) → ((k : ℕ) → k < length xs → get_or xs k 0 ≡ x → ⊥) → marked xs x ≡ false
nowhere [] x h = refl
nowhere (y ∷ xs) x h =
    or_none (nat_eq x y) (marked xs x) (λ e. h 0 (let e : 0 < suc (length xs) = omega arith in e) (sym (eqb-true x y e)))
    (nowhere xs x (λ k less e. h (suc k) (let e : suc k < suc (length xs) = omega arith in e) e))

by_result : (xs : List ℕ) (x : ℕ) (r : Result ℕ ℕ) → ((i j : ℕ) → i ≤ j → j < length xs → get_or xs i 0 ≤ get_or xs j 0) → IsBinarySearchResult (λ y. nat_cmp y x) xs r → is_ok r ≡ marked xs x
by_result xs x (Ok i) rising h = let there = searched xs x (Ok i) h rising in sym (found xs x i there.0 there.1)
by_result xs x (Err i) rising h =
    let there = searched xs x (Err i) h rising in
    sym (nowhere xs x (λ k less e. by_side k i e less (there.1 k) (there.2 k) (cases_lt k i))) where
      by_side : (k i : ℕ) → get_or xs k 0 ≡ x → k < length xs → (k < i → get_or xs k 0 < x) → (i ≤ k → k < length xs → x < get_or xs k 0) → (k < i) ⊎ (i ≤ k) → ⊥
      by_side k i e less below above (inl h) = let f = below h in omega arith
      by_side k i e less below above (inr h) = let f = above h less in omega arith

pub is_marked : (xs : List ℕ) (x : ℕ) (r : Result ℕ ℕ) → IsNonDecreasing xs → IsBinarySearchResult (λ y. nat_cmp y x) xs r → is_ok r ≡ marked xs x
is_marked xs x r rising h = by_result xs x r (λ i j le less. rising i j 0 le less) h
