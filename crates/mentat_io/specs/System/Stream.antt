-- A stream of the system.
use Rattle.std.specs.Prelude.{ℕ}

-- the reader or writer of std, and how many calls have failed
pub record Stream (S : Type 0) : Type 0 where
  pub stream : S
  pub faults : ℕ
