use Rattle.std.proofs.Common.{◌≡◌, ◌++◌, length}
use Rattle.mpl_body_run.proofs.arguments.listed.Given as goal

abbrev pub invariant-loop-item : goal.invariant-loop-item
invariant-loop-item l = l.args ++ l.slots ≡ l.initial.slots

abbrev pub decreases-loop-item : goal.decreases-loop-item
decreases-loop-item l = length l.slots
