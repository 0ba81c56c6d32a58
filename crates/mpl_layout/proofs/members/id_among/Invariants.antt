use Rattle.std.proofs.Common.{◌≡◌, ◌≤◌, ◌+◌, drop, option_map}
use Rattle.mpl_mean.specs.Meaning.Layout.{Member, member_named, members_from}
use Rattle.mpl_layout.specs.SeenClasses.{class_seen}
use Rattle.mpl_layout.proofs.members.id_among.Given as goal

abbrev pub invariant-loop-item : goal.invariant-loop-item
invariant-loop-item l =
    (option_map (λ (m : Member). m.id) (member_named l.name (members_from l.id (drop l.item-index l.item-items)))
    ≡ option_map (λ (m : Member). m.id) (member_named l.name (class_seen l.class).members))
    × (l.id ≤ l.class.first + l.item-index)
