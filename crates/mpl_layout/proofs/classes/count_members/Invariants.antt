use Rattle.std.proofs.Common.{◌≡◌, ◌+◌, drop, length}
use Rattle.mpl_mean.specs.Meaning.Layout.{members_from}
use Rattle.mpl_layout.proofs.classes.count_members.Given as goal

abbrev pub invariant-loop-item : goal.invariant-loop-item
invariant-loop-item l = l.count + length (members_from 0 (drop l.item-index l.items)) ≡ length (members_from 0 l.items)
