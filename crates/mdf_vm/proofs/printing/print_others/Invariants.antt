use Rattle.std.proofs.Common.{◌≡◌, ◌++◌, drop}
use Rattle.mdf_code.specs.Steps.{texts_after_first}
use Rattle.mdf_vm.proofs.printing.print_others.Given as goal

abbrev pub invariant-loop-place : goal.invariant-loop-place
invariant-loop-place l =
    l.line ++ texts_after_first (drop l.place l.letters) (drop l.place l.words) ≡ l.initial.line ++ texts_after_first l.letters l.words
