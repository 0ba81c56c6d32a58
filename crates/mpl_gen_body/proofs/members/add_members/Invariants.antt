use Rattle.std.proofs.Common.{◌≡◌, ◌++◌, drop, map}
use Rattle.mpl_mean.specs.Laws.Sizes.{Every}
use Rattle.mpl_mean.specs.Meaning.Layout.{members_from}
use Rattle.mpl_gen_code.specs.ProgramImage.{member_image}
use Rattle.mpl_layout.specs.SeenClasses.{class_seen}
use Rattle.mpl_gen_scope.specs.SeenMarks.{marked}
use Rattle.mpl_gen_body.specs.Internal.Fitting.{ItemFits}
use Rattle.mpl_gen_body.proofs.members.add_members.Given as goal

abbrev pub invariant-loop-item : goal.invariant-loop-item
invariant-loop-item l = record {
  images : l.members ++ map (member_image l.outline (marked l.marks.nodes.now) (class_seen l.class)) (members_from l.class.first (drop l.item-index l.item-items))
      ≡ l.initial.members ++ map (member_image l.outline (marked l.marks.nodes.now) (class_seen l.class)) (members_from l.class.first l.item-items);
  fits : Every (ItemFits l.outline (marked l.marks.nodes.now) (class_seen l.class)) (drop l.item-index l.item-items);
}
