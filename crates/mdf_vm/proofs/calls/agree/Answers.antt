use Rattle.std.proofs.Common.{sym}
use Rattle.mdf_vm.proofs.Operands.{other_count}
use Rattle.mdf_vm.proofs.calls.agree.Goals as goal

pub returns-then-sizes-flows : goal.returns-then-sizes-flows
returns-then-sizes-flows c = sym (other_count c.args.sizes.now c.args.flows.now c.if-sizes-flows.true)
