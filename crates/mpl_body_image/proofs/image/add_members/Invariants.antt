use Rattle.std.proofs.Common.{◌≡◌, ◌++◌, drop, length}
use Rattle.mpl_mean.specs.Meaning.Layout.{members_from}
use Rattle.mpl_body_image.specs.Laid.{member_entries, members_code}
use Rattle.mpl_layout.specs.SeenClasses.{class_seen}
use Rattle.mpl_body_image.proofs.image.add_members.Given as goal

abbrev pub invariant-loop-item : goal.invariant-loop-item
invariant-loop-item l =
    (l.code ++ members_code l.outline (class_seen l.class) (members_from l.class.first (drop l.item-index l.item-items))
    ≡ l.initial.code ++ members_code l.outline (class_seen l.class) (members_from l.class.first l.item-items))
    × (l.members.items ++ member_entries l.outline (class_seen l.class) (length l.code) (members_from l.class.first (drop l.item-index l.item-items))
    ≡ l.initial.members.items ++ member_entries l.outline (class_seen l.class) (length l.initial.code) (members_from l.class.first l.item-items))
