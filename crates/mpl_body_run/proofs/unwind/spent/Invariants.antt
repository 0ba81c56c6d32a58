use Rattle.std.proofs.Common.{◌≡◌, length}
use Rattle.mpl_value.specs.declared.body.BodyEnd.TheVariants as end
use Rattle.mpl_body_code.specs.Machine.{ended}
use Rattle.mpl_body_run.specs.Seen.{body_seen, callers_seen}
use Rattle.mpl_body_run.proofs.unwind.spent.Given as goal

abbrev pub invariant-loop-frame : goal.invariant-loop-frame
invariant-loop-frame l = ended (callers_seen l.callers.items) end.Spent (body_seen l.inner) l.turns ≡ ended (callers_seen l.initial.callers.items) end.Spent (body_seen l.initial.inner) l.turns

abbrev pub decreases-loop-frame : goal.decreases-loop-frame
decreases-loop-frame l = length l.callers.items
