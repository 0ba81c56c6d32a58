use Rattle.std.proofs.Common.{◌≡◌, ◌≤◌, ℕ, List, drop, option_map}
use Rattle.mpl_mean.specs.Meaning.Layout.{member_named, members_from}
use Rattle.mpl_mean.specs.TypeRules.Typing.{member_of}
use Rattle.mpl_scope.specs.First.{at, or_else}
use Rattle.mpl_scope.specs.SeenMembers.{seen_member}
use Rattle.mpl_scope.proofs.members.table_of.Given as goal

-- the table, and the members that are left, have the first of each name
abbrev pub invariant-loop-item : goal.invariant-loop-item
invariant-loop-item l = record {
  found : (q : List ℕ) → or_else (option_map seen_member (at l.first q)) (member_named q (members_from l.id (drop l.item-index l.items))) ≡ member_of q l.items;
  few : l.id ≤ l.item-index;
}
