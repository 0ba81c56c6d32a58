use Rattle.std.proofs.Common.{◌≡◌, ◌++◌, map, take}
use Rattle.mpl_value.specs.Words.{zeros}
use Rattle.mdf_code.specs.Alone as alone
use Rattle.mdf_vm.proofs.variables.Variables.add_zeros.Given as goal

abbrev pub invariant-loop-size : goal.invariant-loop-size
invariant-loop-size l = l.self ≡ l.initial.self ++ map alone.Words (map zeros (take l.size-index l.sizes))
