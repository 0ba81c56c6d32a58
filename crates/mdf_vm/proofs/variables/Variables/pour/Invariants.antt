use Rattle.std.proofs.Common.{◌≡◌, ◌++◌, drop, length, take}
use Rattle.mdf_vm.specs.Internal.Pouring.{all_poured}
use Rattle.mdf_vm.proofs.variables.Variables.pour.Given as goal

abbrev pub invariant-loop-place : goal.invariant-loop-place
invariant-loop-place l =
    (take l.place l.self ++ all_poured (drop l.place l.self) l.rest ≡ all_poured l.initial.self l.words) × (length l.self ≡ length l.initial.self)
