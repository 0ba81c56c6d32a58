use Rattle.std.proofs.Common.{◌≡◌, ◌++◌, drop, length, map}
use Rattle.mpl_mean.specs.Laws.Sizes.{Every}
use Rattle.mpl_layout.specs.Bounds.{StateFits}
use Rattle.mpl_body_image.specs.Laid.{class_entries, classes_code}
use Rattle.mpl_layout.specs.SeenClasses.{class_seen}
use Rattle.mpl_body_image.proofs.image.add_classes.Given as goal

abbrev pub invariant-loop-class : goal.invariant-loop-class
invariant-loop-class l =
    (l.code ++ classes_code l.outline (map class_seen (drop l.class-index l.class-items)) ≡ l.initial.code ++ classes_code l.outline (map class_seen l.class-items))
    × (l.members.items ++ class_entries l.outline (length l.code) (map class_seen (drop l.class-index l.class-items)) ≡ class_entries l.outline (length l.initial.code) (map class_seen l.class-items))
    × Every (StateFits l.outline) (map class_seen (drop l.class-index l.class-items))
