-- The sums of the blocks of a row.
use Rattle.std.specs.Prelude.{◌≡◌, ℕ, ◌+◌, ◌*◌, ◌<◌, ◌≤◌, List, length, take, drop, slice_index}
use Rattle.std.specs.List.{sum_by}
use Rattle.mdf_order.specs.declared.counts.TheConstants.{BLOCK}

-- one for each block, where the last block may have fewer items than the others
pub record AreBlockSums {X : Type 0} (count : X → ℕ) (row : List X) (sums : List ℕ) : Type 0 where
  pub each : (n : ℕ) → slice_index sums n ≡ sum_by count (take BLOCK (drop (BLOCK * n) row))
  pub all_there : length row ≤ BLOCK * length sums
  pub no_more : BLOCK * length sums < length row + BLOCK
