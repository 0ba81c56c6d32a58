use Rattle.std.proofs.Common.{◌≡◌}
use Rattle.mpl_value.specs.Words.{zeros}
use Rattle.mdf_vm.proofs.held.Held.zeros.Given as goal

abbrev pub invariant-loop-word : goal.invariant-loop-word
invariant-loop-word l = l.words ≡ zeros l._word
