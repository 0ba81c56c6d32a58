use Rattle.std.proofs.Common.{◌≡◌, ◌≤◌, ◌+◌, ◌++◌, drop, map}
use Rattle.mpl_mean.specs.Meaning.Layout.{parts_from, parts_of}
use Rattle.mpl_layout.specs.Bounds.{words_within}
use Rattle.mpl_layout.specs.SeenParts.{part_seen}
use Rattle.mpl_layout.proofs.parts.parts_of_fields.Given as goal

abbrev pub invariant-loop-field : goal.invariant-loop-field
invariant-loop-field l = record {
  parts : map part_seen l.parts.items ++ parts_from l.layout l.offset (drop l.field-index l.fields) ≡ parts_of l.layout l.fields;
  words : l.offset + words_within l.layout (drop l.field-index l.fields) ≤ 256;
}
