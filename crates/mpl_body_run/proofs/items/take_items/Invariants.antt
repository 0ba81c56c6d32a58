use Rattle.std.proofs.Common.{◌≡◌, drop}
use Rattle.mpl_body_code.specs.Steps.{top_of}
use Rattle.mpl_body_run.proofs.TakenItems.{taken_with}
use Rattle.mpl_body_run.proofs.items.take_items.Given as goal

abbrev pub invariant-loop-left : goal.invariant-loop-left
invariant-loop-left l = (taken_with l.left l.stack l.items ≡ top_of l.count l.initial.stack) × (drop l.left l.stack ≡ drop l.count l.initial.stack)

abbrev pub decreases-loop-left : goal.decreases-loop-left
decreases-loop-left l = l.left
