use Rattle.std.proofs.Common.{◌≡◌, drop}
use Rattle.mdf_code.specs.Images.{is_guard_from}
use Rattle.mdf_code.proofs.check.is_guard.Given as goal

abbrev pub invariant-loop-place : goal.invariant-loop-place
invariant-loop-place l = is_guard_from 0 l.guard ≡ is_guard_from l.place (drop l.place l.guard)
