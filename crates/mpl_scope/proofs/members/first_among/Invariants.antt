use Rattle.std.proofs.Common.{◌≡◌, ◌≤◌, drop}
use Rattle.mpl_mean.specs.Meaning.Layout.{member_named, members_from}
use Rattle.mpl_mean.specs.TypeRules.Typing.{member_of}
use Rattle.mpl_scope.proofs.members.first_among.Given as goal

-- those that were passed don't have the name
abbrev pub invariant-loop-item : goal.invariant-loop-item
invariant-loop-item l = record {
  left : member_named l.name (members_from l.id (drop l.item-index l.items)) ≡ member_of l.name l.items;
  few : l.id ≤ l.item-index;
}
