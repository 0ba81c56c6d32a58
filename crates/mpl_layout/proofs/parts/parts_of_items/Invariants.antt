use Rattle.std.proofs.Common.{◌≡◌, ◌≤◌, ◌+◌, ◌++◌, drop, map}
use Rattle.mpl_mean.specs.Meaning.Layout.{parts_from, parts_of, state_of}
use Rattle.mpl_layout.specs.Bounds.{words_within}
use Rattle.mpl_layout.specs.SeenParts.{part_seen}
use Rattle.mpl_layout.proofs.parts.parts_of_items.Given as goal

abbrev pub invariant-loop-item : goal.invariant-loop-item
invariant-loop-item l = record {
  parts : map part_seen l.parts.items ++ parts_from l.layout l.offset (state_of (drop l.item-index l.items)) ≡ parts_of l.layout (state_of l.items);
  words : l.offset + words_within l.layout (state_of (drop l.item-index l.items)) ≤ 256;
}
