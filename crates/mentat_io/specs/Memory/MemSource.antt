-- A source in memory.
use Rattle.std.specs.Prelude.{ℕ, List, true, false, drop, Ok, Err, Result}
use Rattle.mentat_io.specs.Memory.Plan.{Plan, after_call}

-- the bytes that are left, how many a call gives at most, and which calls are to fail
pub record SourceState : Type 0 where
  pub left : List ℕ
  pub most : ℕ
  pub plan : Plan

-- a read gave so many bytes, or failed
abbrev pub after_read : {E : Type 0} → SourceState → Result ℕ E → SourceState
after_read s (Ok n) = record { left = drop n s.left; most = s.most; plan = after_call false s.plan }
after_read s (Err e) = record { left = s.left; most = s.most; plan = after_call true s.plan }
