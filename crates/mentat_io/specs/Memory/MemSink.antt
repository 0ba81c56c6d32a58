-- A sink in memory.
use Rattle.std.specs.Prelude.{ℕ, List, ◌++◌, true, false, take, Ok, Err, Result, if◌then◌else◌}
use Rattle.mentat_io.specs.Causes.{one_more}
use Rattle.mentat_io.specs.Memory.Plan.{Plan, after_call, fails_next}

-- the bytes that it holds, how many a call takes at most, which calls are to fail, and how often its growth was refused
pub record SinkState : Type 0 where
  pub written : List ℕ
  pub most : ℕ
  pub plan : Plan
  pub refusals : ℕ

-- a write took so many bytes, or failed: the call was to fail, or else memory was refused
abbrev pub after_write : {E : Type 0} → SinkState → List ℕ → Result ℕ E → SinkState
after_write s bytes (Ok n) =
    record { written = s.written ++ take n bytes; most = s.most; plan = after_call false s.plan; refusals = s.refusals }
after_write s bytes (Err e) =
    record { written = s.written; most = s.most; plan = after_call true s.plan; refusals = if fails_next s.plan then s.refusals else one_more s.refusals }
