use Rattle.std.proofs.Common.{◌≡◌, take}
use Rattle.mdf_code.specs.Steps.{values_of}
use Rattle.mdf_vm.proofs.calls.flow_args.Given as goal

abbrev pub invariant-loop-flow : goal.invariant-loop-flow
invariant-loop-flow l = l.args ≡ values_of (take l.flow-index l.flows)
