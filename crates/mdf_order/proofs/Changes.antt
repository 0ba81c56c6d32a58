-- How the sums of blocks follow their row.
use Rattle.std.proofs.Common.{◌≡◌, ℕ, zero, suc, ◌+◌, ◌*◌, ◌/◌, ◌%◌, ◌<◌, ◌≤◌, List, [], ◌∷◌, ◌++◌, length, take, drop, sum, refl, ap, sym, subst, ◌∙◌, arith}
use Rattle.std.specs.Prelude.{slice_index, slice_set, slice_index_or}
use Rattle.std.specs.List.{sum_by}
use Rattle.std.proofs.lemmas.Bool.{cases_eq, cases_lt}
use Rattle.std.proofs.Math.Logic.{⊎_elim}
use Rattle.std.proofs.lemmas.List.{take_all, drop_all, drop-take, take-set-le, drop-set-lt, drop-set-add, get_or-take, get_or-drop, get_or-set_same, get_or-set_other, get_or_past, length-set, length-take, length-drop, length_push}
use Rattle.std.proofs.lemmas.List.Sums.{sum_by-cons, sum_by-set, get_or-le-sum_by}
use Rattle.std.proofs.Math.Seq.{take-set-lt}
use Rattle.mdf_order.specs.declared.counts.TheConstants.{BLOCK}
use Rattle.mdf_order.specs.Internal.BlockSums.{AreBlockSums}

-- the sum of the block in which an item changes
block-changed : {X : Type 0} (count : X → ℕ) (row : List X) (start i : ℕ) (x d : X) → i < BLOCK → start + i < length row
    → sum_by count (take BLOCK (drop start (slice_set row (start + i) x))) + count (slice_index_or row (start + i) d)
    ≡ sum_by count (take BLOCK (drop start row)) + count x
block-changed count row start i x d within there =
    let written = ap (take BLOCK) (drop-set-add start row i x) ∙ take-set-lt BLOCK (drop start row) i x within in
    let read = get_or-take BLOCK (drop start row) i d within ∙ get_or-drop start row i d in
    let short : i < length (take BLOCK (drop start row)) = omega (arith, length-take BLOCK (drop start row), length-drop start row) in
    omega (arith, ap (sum_by count) written, ap count read, sum_by-set count (take BLOCK (drop start row)) i x d short)

-- a block before the item or behind it is as it was
block-same : {X : Type 0} (row : List X) (at n : ℕ) (x : X) → (n ≡ at / BLOCK → ⊥)
    → take BLOCK (drop (BLOCK * n) (slice_set row at x)) ≡ take BLOCK (drop (BLOCK * n) row)
block-same row at n x other = ⊎_elim before behind (cases_lt at (BLOCK * n)) where
  before : at < BLOCK * n → take BLOCK (drop (BLOCK * n) (slice_set row at x)) ≡ take BLOCK (drop (BLOCK * n) row)
  before first = ap (take BLOCK) (drop-set-lt (BLOCK * n) row at x first)

  behind : BLOCK * n ≤ at → take BLOCK (drop (BLOCK * n) (slice_set row at x)) ≡ take BLOCK (drop (BLOCK * n) row)
  behind later =
      sym (drop-take (BLOCK * n) BLOCK (slice_set row at x))
      ∙ ap (drop (BLOCK * n)) (take-set-le (BLOCK * n + BLOCK) row at x (omega arith))
      ∙ drop-take (BLOCK * n) BLOCK row

-- an item counts no more than its block
pub item-le-block : {X : Type 0} (count : X → ℕ) (row : List X) (sums : List ℕ) (at : ℕ) (d : X) → AreBlockSums count row sums
    → at < length row → count (slice_index_or row at d) ≤ slice_index sums (at / BLOCK)
item-le-block count row sums at d are there =
    let start = BLOCK * (at / BLOCK) in
    let place : start + at % BLOCK ≡ at = omega arith in
    let within : at % BLOCK < BLOCK = omega arith in
    let read = get_or-take BLOCK (drop start row) (at % BLOCK) d within ∙ get_or-drop start row (at % BLOCK) d in
    let short : at % BLOCK < length (take BLOCK (drop start row)) = omega (arith, length-take BLOCK (drop start row), length-drop start row) in
    omega (
      arith,
      are.each (at / BLOCK),
      get_or-le-sum_by count (take BLOCK (drop start row)) (at % BLOCK) d short,
      ap count read,
      ap (λ m. count (slice_index_or row m d)) place,
    )

-- an item and the sum of its block change alike
pub sums-changed : {X : Type 0} (count : X → ℕ) (row : List X) (sums : List ℕ) (at : ℕ) (x d : X) (y : ℕ) → AreBlockSums count row sums
    → at < length row → y + count (slice_index_or row at d) ≡ slice_index sums (at / BLOCK) + count x
    → AreBlockSums count (slice_set row at x) (slice_set sums (at / BLOCK) y)
sums-changed count row sums at x d y are there alike = record {
  each = λ n. ⊎_elim (here n) (elsewhere n) (cases_eq n (at / BLOCK));
  all_there = omega (arith, length-set row at x, length-set sums (at / BLOCK) y, are.all_there);
  no_more = omega (arith, length-set row at x, length-set sums (at / BLOCK) y, are.no_more);
} where
  here : (n : ℕ) → n ≡ at / BLOCK → slice_index (slice_set sums (at / BLOCK) y) n ≡ sum_by count (take BLOCK (drop (BLOCK * n) (slice_set row at x)))
  here n is =
      let place : BLOCK * n + at % BLOCK ≡ at = omega arith in
      let summed : n < length sums = omega (arith, are.all_there) in
      let written = ap (λ m. slice_index (slice_set sums m y) n) (sym is) ∙ get_or-set_same sums n y 0 summed in
      let changed = block-changed count row (BLOCK * n) (at % BLOCK) x d (omega arith) (omega arith) in
      omega (
        arith,
        written,
        alike,
        are.each n,
        changed,
        ap (slice_index sums) is,
        ap (λ m. sum_by count (take BLOCK (drop (BLOCK * n) (slice_set row m x)))) place,
        ap (λ m. count (slice_index_or row m d)) place,
      )

  elsewhere : (n : ℕ) → (n ≡ at / BLOCK → ⊥) → slice_index (slice_set sums (at / BLOCK) y) n ≡ sum_by count (take BLOCK (drop (BLOCK * n) (slice_set row at x)))
  elsewhere n other =
      get_or-set_other sums (at / BLOCK) n y 0 other ∙ are.each n ∙ ap (sum_by count) (sym (block-same row at n x other))

-- the same of a number and the row above, as code reads and writes them
pub above-changed : (numbers sums before after : List ℕ) (at old new sum : ℕ) → (BLOCK < length numbers) × AreBlockSums (λ number. number) numbers sums
    → at < length numbers → old ≡ slice_index_or numbers at old → before ≡ sums → after ≡ slice_set before (at / BLOCK) sum
    → sum + old ≡ slice_index before (at / BLOCK) + new
    → (BLOCK < length (slice_set numbers at new)) × AreBlockSums (λ number. number) (slice_set numbers at new) after
above-changed numbers sums before after at old new sum is there read lent written alike = (
  omega (arith, length-set numbers at new, is.0),
  subst (λ ss. AreBlockSums (λ number. number) (slice_set numbers at new) ss) (sym (written ∙ ap (λ ss. slice_set ss (at / BLOCK) sum) lent))
      (sums-changed (λ number. number) numbers sums at new old sum is.1 there
      (omega (arith, alike, read, ap (λ ss. slice_index ss (at / BLOCK)) lent))),
)

-- a number that isn't 0 is there
pub number-there : (numbers : List ℕ) (at : ℕ) → 0 < slice_index numbers at → at < length numbers
number-there numbers at some = ⊎_elim (λ there. there) (λ past. absurd (omega (arith, get_or_past numbers at 0 past))) (cases_lt at (length numbers))

-- an item of no count at the end of a row
sum-take-push : {X : Type 0} (count : X → ℕ) (row : List X) (x : X) (n : ℕ) → count x ≡ 0 → sum_by count (take n (row ++ x ∷ [])) ≡ sum_by count (take n row)
sum-take-push count row x zero none = refl
sum-take-push count [] x (suc zero) none = omega (arith, none)
sum-take-push count [] x (suc (suc n)) none = omega (arith, none)
sum-take-push count (y ∷ row) x (suc n) none =
    sum_by-cons count y (take n (row ++ x ∷ [])) ∙ ap (λ m. count y + m) (sum-take-push count row x n none) ∙ sym (sum_by-cons count y (take n row))

pub sum-block-push : {X : Type 0} (count : X → ℕ) (row : List X) (x : X) (start : ℕ) → count x ≡ 0
    → sum_by count (take BLOCK (drop start (row ++ x ∷ []))) ≡ sum_by count (take BLOCK (drop start row))
sum-block-push count row x zero none = sum-take-push count row x BLOCK none
sum-block-push count [] x (suc zero) none = refl
sum-block-push count [] x (suc (suc start)) none = refl
sum-block-push count (y ∷ row) x (suc start) none = sum-block-push count row x start none

-- it goes into the last block
pub sums-same : {X : Type 0} (count : X → ℕ) (row : List X) (sums : List ℕ) (x : X) → AreBlockSums count row sums → count x ≡ 0
    → length row < BLOCK * length sums → AreBlockSums count (row ++ x ∷ []) sums
sums-same count row sums x are none room = record {
  each = λ n. are.each n ∙ sym (sum-block-push count row x (BLOCK * n) none);
  all_there = omega (arith, length_push row x);
  no_more = omega (arith, length_push row x, are.no_more);
}

-- it begins a block
pub sums-pushed : {X : Type 0} (count : X → ℕ) (row : List X) (sums : List ℕ) (x : X) → AreBlockSums count row sums → count x ≡ 0
    → BLOCK * length sums ≡ length row → AreBlockSums count (row ++ x ∷ []) (sums ++ 0 ∷ [])
sums-pushed count row sums x are none full = record {
  each = λ n. past sums n ∙ are.each n ∙ sym (sum-block-push count row x (BLOCK * n) none);
  all_there = omega (arith, length_push row x, length_push sums 0);
  no_more = omega (arith, length_push row x, length_push sums 0);
} where
  past : (sums : List ℕ) (n : ℕ) → slice_index (sums ++ 0 ∷ []) n ≡ slice_index sums n
  past [] zero = refl
  past [] (suc n) = refl
  past (y ∷ sums) zero = refl
  past (y ∷ sums) (suc n) = past sums n

-- one block
sums-one : (row : List ℕ) → length row ≡ BLOCK → AreBlockSums (λ number. number) row (sum row ∷ [])
sums-one row whole = record {
  each = one;
  all_there = omega arith;
  no_more = omega arith;
} where
  one : (n : ℕ) → slice_index (sum row ∷ []) n ≡ sum (take BLOCK (drop (BLOCK * n) row))
  one zero = ap sum (sym (take_all BLOCK row (omega arith)))
  one (suc n) = ap (λ rest. sum (take BLOCK rest)) (sym (drop_all (BLOCK * suc n) row (omega arith)))

-- a second block
pub sums-two : (row : List ℕ) → length row ≡ BLOCK → AreBlockSums (λ number. number) (row ++ 0 ∷ []) (sum row ∷ 0 ∷ [])
sums-two row whole = sums-pushed (λ number. number) row (sum row ∷ []) 0 (sums-one row whole) refl (omega arith)

-- the same of the row above: a block more, none more, and a row where there was none
pub above-pushed : (numbers sums before after : List ℕ) (len : ℕ) → (BLOCK < length numbers) × AreBlockSums (λ number. number) numbers sums
    → len ≡ length numbers → len % BLOCK ≡ 0 → before ≡ sums → after ≡ before ++ 0 ∷ []
    → (BLOCK < length (numbers ++ 0 ∷ [])) × AreBlockSums (λ number. number) (numbers ++ 0 ∷ []) after
above-pushed numbers sums before after len is counted full lent pushed = (
  omega (arith, length_push numbers 0, is.0),
  subst (λ ss. AreBlockSums (λ number. number) (numbers ++ 0 ∷ []) ss) (sym (pushed ∙ ap (λ ss. ss ++ 0 ∷ []) lent))
      (sums-pushed (λ number. number) numbers sums 0 is.1 refl (omega (arith, counted, full, is.1.all_there, is.1.no_more))),
)

pub above-same : (numbers sums : List ℕ) (len : ℕ) → (BLOCK < length numbers) × AreBlockSums (λ number. number) numbers sums
    → len ≡ length numbers → (len % BLOCK ≡ 0 → ⊥) → (BLOCK < length (numbers ++ 0 ∷ [])) × AreBlockSums (λ number. number) (numbers ++ 0 ∷ []) sums
above-same numbers sums len is counted room = (
  omega (arith, length_push numbers 0, is.0),
  sums-same (λ number. number) numbers sums 0 is.1 refl (omega (arith, counted, room, is.1.all_there)),
)

pub above-two : (numbers sums : List ℕ) → length numbers ≡ BLOCK → sums ≡ sum numbers ∷ 0 ∷ []
    → (BLOCK < length (numbers ++ 0 ∷ [])) × AreBlockSums (λ number. number) (numbers ++ 0 ∷ []) sums
above-two numbers sums whole are = (
  omega (arith, length_push numbers 0, whole),
  subst (λ ss. AreBlockSums (λ number. number) (numbers ++ 0 ∷ []) ss) (sym are) (sums-two numbers whole),
)
