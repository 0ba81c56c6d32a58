use Rattle.std.proofs.Common.{◌≡◌, ◌≤◌, ◌+◌, drop}
use Rattle.mpl_scope.specs.Words.{told, words_of_field}
use Rattle.mpl_scope.proofs.sizes.words_of_field.Given as goal

-- those so far and those that are left are all
abbrev pub invariant-loop-name : goal.invariant-loop-name
invariant-loop-name l = record {
  few : l.words ≤ 1025;
  all : told (l.words + words_of_field (drop l.name-index l.names)) ≡ told (words_of_field l.names);
}
