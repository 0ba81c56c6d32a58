use Rattle.std.proofs.Common.{◌≡◌, drop, map, option_map}
use Rattle.mpl_mean.specs.Meaning.BodyMeaning.{member_of_classes}
use Rattle.mpl_mean.specs.Meaning.Layout.{Class, Member}
use Rattle.mpl_layout.specs.SeenClasses.{class_seen}
use Rattle.mpl_body_image.proofs.sizes.formals_numbered.Given as goal

abbrev pub invariant-loop-class : goal.invariant-loop-class
invariant-loop-class l =
    option_map (λ (found : Class × Member). found.1.formals) (member_of_classes l.id (map class_seen (drop l.class-index l.classes)))
    ≡ option_map (λ (found : Class × Member). found.1.formals) (member_of_classes l.id (map class_seen l.classes))
