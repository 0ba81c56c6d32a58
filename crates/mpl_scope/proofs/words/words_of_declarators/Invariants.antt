use Rattle.std.proofs.Common.{◌≡◌, ◌≤◌, ◌+◌, drop, map}
use Rattle.mpl_mean.specs.TypeRules.StatementNodes.{declared_local}
use Rattle.mpl_mean.specs.Plain.Stmt.{new_local}
use Rattle.mpl_mean.specs.TypeRules.Types.{words_of_variables}
use Rattle.mpl_scope.specs.Words.{told}
use Rattle.mpl_scope.proofs.words.words_of_declarators.Given as goal

-- those so far and those that are left are all
abbrev pub invariant-loop-declarator : goal.invariant-loop-declarator
invariant-loop-declarator l = record {
  few : l.words ≤ 1025;
  all : told (l.words + words_of_variables l.outline (map (λ d. declared_local l.type_name (new_local d)) (drop l.declarator-index l.declarators))) ≡ told (words_of_variables l.outline (map (λ d. declared_local l.type_name (new_local d)) l.declarators));
}
