use Rattle.std.proofs.Common.{◌≡◌, drop, map}
use Rattle.mpl_body_code.specs.Machine.{arg_of}
use Rattle.mpl_body_code.specs.Steps.{top_of}
use Rattle.mpl_body_run.proofs.TakenArguments.{taken_with}
use Rattle.mpl_body_run.proofs.arguments.take_arguments.Given as goal

abbrev pub invariant-loop-left : goal.invariant-loop-left
invariant-loop-left l = (taken_with l.left l.stack l.arguments ≡ map arg_of (top_of l.count l.initial.stack)) × (drop l.left l.stack ≡ drop l.count l.initial.stack)

abbrev pub decreases-loop-left : goal.decreases-loop-left
decreases-loop-left l = l.left
