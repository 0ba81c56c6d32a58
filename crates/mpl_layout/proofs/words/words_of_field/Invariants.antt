use Rattle.std.proofs.Common.{◌≡◌, ◌+◌, drop}
use Rattle.mpl_layout.specs.Parts.{words_of_field}
use Rattle.mpl_layout.proofs.words.words_of_field.Given as goal

-- those so far and those that are left are all
abbrev pub invariant-loop-name : goal.invariant-loop-name
invariant-loop-name l = l.words + words_of_field (drop l.name-index l.names) ≡ words_of_field l.names
