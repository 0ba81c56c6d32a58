use Rattle.std.proofs.Common.{ap, ◌∙◌}
use Rattle.std.specs.Prelude.{reverse}
use Rattle.mdf_vm.proofs.Reversed.{popped_read}
use Rattle.mdf_vm.proofs.stack.Stack.last.Goals as goal

pub returns-clause-value : goal.returns-clause-value
returns-clause-value g c =
    popped_read _ _ _ _ (ap reverse c.as_slice-items.ensures.value ∙ c.self.view_is) (c.in_ok-from.ensures).0 (c.in_ok-from.ensures).1
