use Rattle.std.proofs.Common.{◌≡◌, drop, map}
use Rattle.mpl_mean.specs.Meaning.Layout.{part_named}
use Rattle.mpl_layout.specs.SeenParts.{part_seen}
use Rattle.mpl_layout.proofs.parts.part_named.Given as goal

abbrev pub invariant-loop-part : goal.invariant-loop-part
invariant-loop-part l = part_named l.name (map part_seen (drop l.part-index l.parts)) ≡ part_named l.name (map part_seen l.parts)
