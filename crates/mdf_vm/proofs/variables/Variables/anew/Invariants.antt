use Rattle.std.proofs.Common.{◌≡◌, take}
use Rattle.std.specs.Prelude.{slice_set}
use Rattle.mdf_code.specs.Alone as alone
use Rattle.mdf_vm.proofs.variables.Variables.anew.Given as goal

abbrev pub invariant-loop-place : goal.invariant-loop-place
invariant-loop-place l = l.anew ≡ take l.place (slice_set l.self l.variable (alone.Words l.words))
