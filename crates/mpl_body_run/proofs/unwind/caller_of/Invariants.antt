use Rattle.std.proofs.Common.{◌≡◌, ◌≤◌, ℕ, length}
use Rattle.mpl_value.specs.declared.body.BodyEnd.{BodyEnd}
use Rattle.mpl_body_code.specs.Machine.{Body, ended}
use Rattle.mpl_body_run.specs.Seen.{callers_seen}
use Rattle.mpl_body_run.proofs.unwind.caller_of.Given as goal

abbrev pub invariant-loop-caller : goal.invariant-loop-caller
invariant-loop-caller l =
    ((at : BodyEnd) (body : Body) (turns : ℕ) → ended (callers_seen l.callers.items) at body turns ≡ ended (callers_seen l.initial.callers.items) at body turns)
    × (length l.callers.items ≤ length l.initial.callers.items)

abbrev pub decreases-loop-caller : goal.decreases-loop-caller
decreases-loop-caller l = goal.left-loop-caller l
