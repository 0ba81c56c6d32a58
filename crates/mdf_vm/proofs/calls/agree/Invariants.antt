use Rattle.std.proofs.Common.{◌≡◌, drop}
use Rattle.mdf_code.specs.Steps.{sizes_agree}
use Rattle.mdf_vm.proofs.calls.agree.Given as goal

abbrev pub invariant-loop-place : goal.invariant-loop-place
invariant-loop-place l = sizes_agree l.sizes l.flows ≡ sizes_agree (drop l.place l.sizes) (drop l.place l.flows)
