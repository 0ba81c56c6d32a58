use Rattle.std.proofs.Common.{◌≡◌, replicate, pos}
use Rattle.mpl_body_run.proofs.perform.zeros.Given as goal

abbrev pub invariant-loop-done : goal.invariant-loop-done
invariant-loop-done l = l.all ≡ replicate l.done (pos 0)
