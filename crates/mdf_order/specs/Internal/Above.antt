-- What stands above a row of numbers.
use Rattle.std.specs.Prelude.{ℕ, ◌<◌, ◌≤◌, List, length, Option, Some, None, Box}
use Rattle.std.specs.Global.{Global}
use Rattle.mdf_order.specs.declared.counts.TheConstants.{BLOCK}
use Rattle.mdf_order.specs.Internal.BlockSums.{AreBlockSums}

-- nothing if the row has one block at most, or else the sums of its blocks
abbrev pub IsAbove : List ℕ → Option (Box (List ℕ) Global) → Type 0
IsAbove row None = length row ≤ BLOCK
IsAbove row (Some above) = (BLOCK < length row) × AreBlockSums (λ number. number) row above.value
