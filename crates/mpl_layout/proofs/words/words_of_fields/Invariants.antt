use Rattle.std.proofs.Common.{◌≡◌, ◌+◌, drop}
use Rattle.mpl_mean.specs.Meaning.Layout.{words_of_fields}
use Rattle.mpl_layout.proofs.words.words_of_fields.Given as goal

-- those so far and those that are left are all
abbrev pub invariant-loop-field : goal.invariant-loop-field
invariant-loop-field l = l.words + words_of_fields (drop l.field-index l.fields) ≡ words_of_fields l.fields
