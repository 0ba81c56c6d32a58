use Rattle.std.proofs.Common.{◌≡◌, ◌+◌, length, take}
use Rattle.mdf_code.specs.Stacks.{pushed}
use Rattle.mdf_vm.proofs.short_stack.ShortStack.extend.Given as goal

abbrev pub invariant-loop-word : goal.invariant-loop-word
invariant-loop-word l = (l.self ≡ pushed (take l.word-index l.words) l.fn.self) × (length l.self ≡ l.word-index + length l.fn.self)
