-- What is kept for each number below a count.
use Rattle.std.specs.Prelude.{ℕ, ◌≡◌, ◌<◌, ◌≤◌, List, length, Some, None, slice_get}
use Rattle.std.specs.Ordering.{nat_cmp}
use Rattle.std.specs.FinMap.{FinMap, get}

-- a list with an item for each
pub record Each {A : Type 0} (R : ℕ → A → Type 0) (count : ℕ) (xs : List A) : Type 0 where
  pub length_is : length xs ≡ count
  pub at : (k : ℕ) (x : A) → slice_get xs k ≡ Some x → R k x

-- a map with an entry for each
pub record Keyed {V : Type 0} (R : ℕ → V → Type 0) (count : ℕ) (m : FinMap nat_cmp V) : Type 0 where
  pub at : (k : ℕ) → k < count → (v : V) × (get m k ≡ Some v) × R k v
  pub beyond : (k : ℕ) → count ≤ k → get m k ≡ None
