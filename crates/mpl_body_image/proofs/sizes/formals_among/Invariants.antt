use Rattle.std.proofs.Common.{◌≡◌, ◌≤◌, ◌+◌, drop, length, option_map}
use Rattle.mpl_mean.specs.Meaning.Layout.{Member, member_numbered, members_from}
use Rattle.mpl_layout.specs.SeenClasses.{class_seen}
use Rattle.mpl_body_image.proofs.sizes.formals_among.Given as goal

abbrev pub invariant-loop-item : goal.invariant-loop-item
invariant-loop-item l = record {
  formals : option_map (λ (m : Member). m.formals) (member_numbered l.id (members_from l.at (drop l.item-index l.item-items)))
      ≡ option_map (λ (m : Member). m.formals) (member_numbered l.id (class_seen l.class).members);
  few : l.at + length (members_from 0 (drop l.item-index l.item-items)) ≤ 262144;
}
