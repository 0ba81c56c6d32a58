-- What a row and the sums of its blocks have to do with one another.
use Rattle.std.proofs.Common.{◌≡◌, ℕ, zero, suc, ◌+◌, ◌*◌, ◌<◌, ◌≤◌, List, [], ◌∷◌, length, take, drop, sum, refl, ap, sym, subst, ◌∙◌, arith}
use Rattle.std.specs.Prelude.{slice_index}
use Rattle.std.specs.List.{sum_by}
use Rattle.std.proofs.lemmas.List.{take_all}
use Rattle.std.proofs.lemmas.List.Sums.{sum_by-cons, sum_by-append, sum_by-take-drop, sum_by-take-le}
use Rattle.std.proofs.Math.Seq.{take-add}
use Rattle.mdf_order.specs.declared.spot.Spot.{Spot}
use Rattle.mdf_order.specs.declared.counts.TheConstants.{BLOCK}
use Rattle.mdf_order.specs.Internal.BlockSums.{AreBlockSums}
use Rattle.mdf_order.specs.Internal.Spots.{IsSpot}

-- a place that the rest of a row has isn't past its end
pub past_end : {X : Type 0} (count : X → ℕ) (row : List X) (from item left place : ℕ) → length row ≤ item
    → sum_by count (take item row) + left ≡ sum_by count (take from row) + place → place < sum_by count (drop from row) → ⊥
past_end count row from item left place over so_far below =
    absurd (omega (arith, ap (sum_by count) (take_all item row over), sum_by-take-drop count row from))

-- the sum of one number more
sum-take-suc : (numbers : List ℕ) (n : ℕ) → sum (take (suc n) numbers) ≡ sum (take n numbers) + slice_index numbers n
sum-take-suc [] zero = refl
sum-take-suc [] (suc n) = refl
sum-take-suc (x ∷ xs) zero = refl
sum-take-suc (x ∷ xs) (suc n) =
    omega (arith, sum_by-cons (λ n. n) x (take (suc n) xs), sum_by-cons (λ n. n) x (take n xs), sum-take-suc xs n)

-- the blocks before one have the sum of the items before it
pub sum-before : {X : Type 0} (count : X → ℕ) (row : List X) (sums : List ℕ) → AreBlockSums count row sums
    → (n : ℕ) → sum (take n sums) ≡ sum_by count (take (BLOCK * n) row)
sum-before count row sums are zero = refl
sum-before count row sums are (suc n) =
    let next : BLOCK * suc n ≡ BLOCK * n + BLOCK = omega arith in
    let split = take-add (BLOCK * n) BLOCK row in
    sum-take-suc sums n
    ∙ (omega (
      arith,
      sum-before count row sums are n,
      are.each n,
      sum_by-append count (take (BLOCK * n) row) (take BLOCK (drop (BLOCK * n) row)),
      ap (λ m. sum_by count (take m row)) next,
      ap (sum_by count) split,
    ))

-- the sums have the sum of the row
pub sum-whole : {X : Type 0} (count : X → ℕ) (row : List X) (sums : List ℕ) → AreBlockSums count row sums → sum sums ≡ sum_by count row
sum-whole count row sums are =
    ap sum (sym (take_all (length sums) sums (omega arith)))
    ∙ sum-before count row sums are (length sums)
    ∙ ap (sum_by count) (take_all (BLOCK * length sums) row are.all_there)

-- a place that falls into a block falls behind the block's start
pub within_block : {X : Type 0} (count : X → ℕ) (row : List X) (sums : List ℕ) (place : ℕ) (spot : Spot) → AreBlockSums count row sums
    → IsSpot (λ number. number) sums place spot → spot.place < sum_by count (drop (BLOCK * spot.item) row)
within_block count row sums place spot are is =
    omega (arith, is.within 0, are.each spot.item, sum_by-take-le count (drop (BLOCK * spot.item) row) BLOCK)

pub before_block : {X : Type 0} (count : X → ℕ) (row : List X) (sums : List ℕ) (place : ℕ) (spot : Spot) → AreBlockSums count row sums
    → IsSpot (λ number. number) sums place spot → sum_by count (take (BLOCK * spot.item) row) + spot.place ≡ place
before_block count row sums place spot are is = omega (arith, is.before, sum-before count row sums are spot.item)

-- a spot found from the start of its block on
pub spot-from_block : {X : Type 0} (count : X → ℕ) (row read : List X) (sums : List ℕ) (place : ℕ) (block spot : Spot) → AreBlockSums count row sums
    → IsSpot (λ number. number) sums place block → read ≡ row → IsSpot count read (sum_by count (take (BLOCK * block.item) read) + block.place) spot
    → IsSpot count row place spot
spot-from_block {X = X} count row read sums place block spot are is same found =
    subst (λ p. IsSpot count row p spot) (before_block count row sums place block are is)
    (subst (λ (r : List X). IsSpot count r (sum_by count (take (BLOCK * block.item) r) + block.place) spot) same found)
