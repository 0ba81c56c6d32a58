-- Numbers that rise: what is found among them, and what sorting and leaving out doubles leaves.
use Rattle.std.proofs.Common.{◌≡◌, ◌≤◌, ◌<◌, ◌+◌, ◌-◌, ℕ, zero, suc, true, List, [], length, get_or, Result, Ok, Err, ◌⊎◌, inl, inr, refl, sym, subst, true≢false, arith, ◌∙◌, eqb}
use Rattle.std.specs.List.{Contains}
use Rattle.std.specs.List.Retain.{DiffersFromLast, IsFiltered}
use Rattle.std.specs.List.Sorted.{IsBinarySearchResult, IsPermutation, IsSorted, IsStrictlyIncreasing}
use Rattle.std.specs.Ordering.{nat_cmp}
use Rattle.std.specs.Result.{is_ok}
use Rattle.std.proofs.lemmas.Bool.{cases_lt}
use Rattle.std.proofs.lemmas.Grind.{get_or_default_zero}
use Rattle.std.proofs.lemmas.List.Filters.{dedup_is}
use Rattle.std.proofs.lemmas.List.Kept.{Contains-dedup_nat, Contains-from_dedup}
use Rattle.std.proofs.lemmas.List.Sorted.{Contains-permutation, IsPermutation-sym, searched}
use Rattle.std.proofs.lemmas.Map.Keys.{IsStrictlyIncreasing-dedup}

rises : (xs : List ℕ) → IsStrictlyIncreasing xs → (i d : ℕ) → i + d < length xs → get_or xs i 0 ≤ get_or xs (i + d) 0
rises xs up i zero less = let e : i ≡ i + 0 = omega arith in subst (λ n. get_or xs i 0 ≤ get_or xs n 0) e (omega arith)
rises xs up i (suc d) less =
    let before = rises xs up i d (omega arith) in
    let next = up (i + d) (omega arith) in
    let e : i + d + 1 ≡ i + suc d = omega arith in
    subst (λ n. get_or xs i 0 ≤ get_or xs n 0) e (omega arith)

never_falls : (xs : List ℕ) → IsStrictlyIncreasing xs → (i j : ℕ) → i ≤ j → j < length xs → get_or xs i 0 ≤ get_or xs j 0
never_falls xs up i j le less = let e : i + (j - i) ≡ j = omega arith in subst (λ n. get_or xs i 0 ≤ get_or xs n 0) e (rises xs up i (j - i) (omega arith))

pub found_there : (xs : List ℕ) (x : ℕ) (r : Result ℕ ℕ) → IsStrictlyIncreasing xs → IsBinarySearchResult (λ y. nat_cmp y x) xs r → is_ok r ≡ true → Contains xs x
found_there xs x (Ok i) up h is = let at = searched xs x (Ok i) h (never_falls xs up) in (i, at.0, get_or_default_zero xs i x at.0 ∙ at.1)
found_there xs x (Err i) up h is = absurd (true≢false (sym is))

pub there_found : (xs : List ℕ) (x : ℕ) (r : Result ℕ ℕ) → IsStrictlyIncreasing xs → IsBinarySearchResult (λ y. nat_cmp y x) xs r → Contains xs x → is_ok r ≡ true
there_found xs x (Ok i) up h there = refl
there_found xs x (Err i) up h there = absurd (by_place (cases_lt there.0 i)) where
  at : get_or xs there.0 0 ≡ x
  at = sym (get_or_default_zero xs there.0 x there.1) ∙ there.2

  by_place : (there.0 < i) ⊎ (i ≤ there.0) → ⊥
  by_place (inl less) = let m = (searched xs x (Err i) h (never_falls xs up)).1 there.0 less in omega (arith, at)
  by_place (inr more) = let m = (searched xs x (Err i) h (never_falls xs up)).2 there.0 more there.1 in omega (arith, at)

pub sorted_rises : (sorted nodes : List ℕ) → IsSorted nat_cmp sorted → IsFiltered (DiffersFromLast eqb) [] sorted nodes → IsStrictlyIncreasing nodes
sorted_rises sorted nodes up h = subst (λ xs. IsStrictlyIncreasing xs) (sym (dedup_is eqb sorted nodes h)) (IsStrictlyIncreasing-dedup sorted up)

pub sorted_sound : (marks sorted nodes : List ℕ) (node : ℕ) → IsPermutation marks sorted → IsFiltered (DiffersFromLast eqb) [] sorted nodes → Contains nodes node → Contains marks node
sorted_sound marks sorted nodes node same h there =
    Contains-permutation sorted marks node (IsPermutation-sym marks sorted same) (Contains-from_dedup eqb sorted node (subst (λ xs. Contains xs node) (dedup_is eqb sorted nodes h) there))

pub sorted_complete : (marks sorted nodes : List ℕ) (node : ℕ) → IsPermutation marks sorted → IsFiltered (DiffersFromLast eqb) [] sorted nodes → Contains marks node → Contains nodes node
sorted_complete marks sorted nodes node same h there =
    subst (λ xs. Contains xs node) (sym (dedup_is eqb sorted nodes h)) (Contains-dedup_nat sorted node (Contains-permutation marks sorted node same there))
