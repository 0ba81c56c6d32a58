-- What is counted of the marks of serials.
use Rattle.std.specs.Prelude.{◌≡◌, ℕ, ◌^◌, ◌<◌, Bool, List, length, if◌then◌else◌}
use Rattle.std.specs.List.{sum_by}
use Rattle.mdf_order.specs.Internal.BlockSums.{AreBlockSums}

abbrev pub mark_count : Bool → ℕ
mark_count marked = if marked then 1 else 0

-- the marks of so many serials that a u32 numbers them, with how many are in, in each block and in all
pub record IsCounted (marks : List Bool) (blocks : List ℕ) (count : ℕ) : Type 0 where
  pub in_blocks : AreBlockSums mark_count marks blocks
  pub in_all : count ≡ sum_by mark_count marks
  pub numbered : length marks < 2 ^ 32
