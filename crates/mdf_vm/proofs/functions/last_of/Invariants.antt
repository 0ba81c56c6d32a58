use Rattle.std.proofs.Common.{◌≡◌, ◌≤◌, sum, take, length}
use Rattle.mdf_vm.proofs.functions.last_of.Given as goal

abbrev pub invariant-loop-size : goal.invariant-loop-size
invariant-loop-size l = (l.count ≡ sum (take l.size-index l.sizes)) × (l.count ≤ length l.words)
