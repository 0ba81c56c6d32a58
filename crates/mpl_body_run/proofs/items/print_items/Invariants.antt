use Rattle.std.proofs.Common.{◌≡◌, ◌++◌, length}
use Rattle.mpl_body_code.specs.Steps.{values_of}
use Rattle.mpl_body_run.specs.Printing.{rest_of}
use Rattle.mpl_body_run.proofs.items.print_items.Given as goal

abbrev pub invariant-loop-item : goal.invariant-loop-item
invariant-loop-item l = l.lines ++ rest_of l.is_first (values_of l.items) ≡ l.initial.lines ++ rest_of l.initial.is_first (values_of l.initial.items)

abbrev pub decreases-loop-item : goal.decreases-loop-item
decreases-loop-item l = length l.items
