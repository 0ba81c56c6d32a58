use Rattle.std.proofs.Common.{◌≡◌, ◌≤◌, ◌+◌, drop, map}
use Rattle.mpl_mean.specs.TypeRules.Types.{words_of_variables}
use Rattle.mpl_scope.specs.SeenDeclared.{seen_declared}
use Rattle.mpl_scope.specs.Words.{told}
use Rattle.mpl_scope.proofs.words.words_of_formals.Given as goal

-- those so far and those that are left are all
abbrev pub invariant-loop-formal : goal.invariant-loop-formal
invariant-loop-formal l = record {
  few : l.words ≤ 1025;
  all : told (l.words + words_of_variables l.outline (map seen_declared (drop l.formal-index l.formals))) ≡ told (words_of_variables l.outline (map seen_declared l.formals));
}
