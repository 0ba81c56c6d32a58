use Rattle.mdf_vm.proofs.Reversed.{popped_read}
use Rattle.mdf_vm.proofs.word_stack.WordStack.last.Goals as goal

pub returns-clause-value : goal.returns-clause-value
returns-clause-value c = popped_read _ _ _ _ c.live-items.ensures (c.in_ok-from.ensures).0 (c.in_ok-from.ensures).1
