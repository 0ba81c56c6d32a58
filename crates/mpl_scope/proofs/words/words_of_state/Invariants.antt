use Rattle.std.proofs.Common.{◌≡◌, ◌≤◌, ◌+◌, drop, map}
use Rattle.mpl_scope.specs.SeenDeclared.{seen_declared}
use Rattle.mpl_scope.specs.Words.{told, words_of_state_list}
use Rattle.mpl_scope.proofs.words.words_of_state.Given as goal

-- those so far and those that are left are all
abbrev pub invariant-loop-member : goal.invariant-loop-member
invariant-loop-member l = record {
  few : l.words ≤ 1025;
  all : told (l.words + words_of_state_list l.outline (map seen_declared (drop l.member-index l.members))) ≡ told (words_of_state_list l.outline (map seen_declared l.members));
}
