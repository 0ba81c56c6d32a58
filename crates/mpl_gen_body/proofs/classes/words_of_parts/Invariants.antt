use Rattle.std.proofs.Common.{◌≡◌, ◌+◌, drop, map}
use Rattle.mpl_mean.specs.Meaning.Layout.{words_of_parts}
use Rattle.mpl_layout.specs.SeenParts.{part_seen}
use Rattle.mpl_gen_body.proofs.classes.words_of_parts.Given as goal

abbrev pub invariant-loop-part : goal.invariant-loop-part
invariant-loop-part l = l.words + words_of_parts (map part_seen (drop l.part-index l.parts)) ≡ words_of_parts (map part_seen l.parts)
