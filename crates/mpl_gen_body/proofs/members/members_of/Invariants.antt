use Rattle.std.proofs.Common.{◌≡◌, ◌++◌, drop, map}
use Rattle.mpl_mean.specs.Laws.Sizes.{Every}
use Rattle.mpl_gen_code.specs.ProgramImage.{members_image}
use Rattle.mpl_layout.specs.Bounds.{StateFits}
use Rattle.mpl_layout.specs.SeenClasses.{class_seen}
use Rattle.mpl_gen_scope.specs.SeenMarks.{marked}
use Rattle.mpl_gen_bounds.specs.ImageFits.{MemberFits}
use Rattle.mpl_gen_body.proofs.members.members_of.Given as goal

abbrev pub invariant-loop-class : goal.invariant-loop-class
invariant-loop-class l = record {
  images : l.members ++ members_image l.outline (marked l.marks.nodes.now) (map class_seen (drop l.class-index l.class-items))
      ≡ members_image l.outline (marked l.marks.nodes.now) (map class_seen l.class-items);
  fit : Every (StateFits l.outline) (map class_seen (drop l.class-index l.class-items));
  fits : Every MemberFits (members_image l.outline (marked l.marks.nodes.now) (map class_seen (drop l.class-index l.class-items)));
}
