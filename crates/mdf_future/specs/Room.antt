-- The room that the queue of due consumers has for those that still wait.
use Rattle.std.specs.Prelude.{ℕ, ◌+◌, ◌≤◌, List, length, sum_by}
use Rattle.std.specs.Map.{values_of}
use Rattle.mdf_future.specs.declared.future.Future.{Future}

-- how many consumers wait for the results
abbrev pub waiting_in : List (ℕ × Future) → ℕ
waiting_in entries = sum_by (λ f. length f.consumers) (values_of entries)

-- a queue of this length and capacity has room for them
pub record HasRoom (entries : List (ℕ × Future)) (waiting len capacity : ℕ) : Type 0 where
  pub counted : waiting_in entries ≤ waiting
  pub within : len + waiting ≤ capacity
