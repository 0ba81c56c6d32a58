-- Which item of a row stands for a place, if each stands for so many in turn.
use Rattle.std.specs.Prelude.{◌≡◌, ℕ, ◌+◌, ◌<◌, List, length, take, slice_index_or}
use Rattle.std.specs.List.{sum_by}
use Rattle.mdf_order.specs.declared.spot.Spot.{Spot}

pub record IsSpot {X : Type 0} (count : X → ℕ) (row : List X) (place : ℕ) (spot : Spot) : Type 0 where
  pub exists : spot.item < length row
  pub before : sum_by count (take spot.item row) + spot.place ≡ place
  pub within : (d : X) → spot.place < count (slice_index_or row spot.item d)
