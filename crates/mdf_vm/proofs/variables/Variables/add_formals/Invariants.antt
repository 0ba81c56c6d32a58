use Rattle.std.proofs.Common.{◌≡◌, ◌++◌, map, drop}
use Rattle.mdf_code.specs.Alone as alone
use Rattle.mdf_code.specs.Parts.{split_words}
use Rattle.mdf_vm.proofs.variables.Variables.add_formals.Given as goal

abbrev pub invariant-loop-size : goal.invariant-loop-size
invariant-loop-size l =
    l.self ++ map alone.Words (split_words (drop l.size-index l.sizes) l.rest) ≡ l.initial.self ++ map alone.Words (split_words l.sizes l.words)
