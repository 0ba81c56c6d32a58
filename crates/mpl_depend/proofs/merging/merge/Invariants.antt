use Rattle.std.proofs.Common.{◌≡◌, drop}
use Rattle.mpl_depend.proofs.Merges.{MeetingAll}
use Rattle.mpl_depend.proofs.merging.merge.Given as goal

abbrev pub invariant-loop-one : goal.invariant-loop-one
invariant-loop-one l = record {
  meeting : MeetingAll l.saved (drop l.one-index l.saved) l.first l.values.count l.fn.values.edges.items l.values.edges.items l.fn.current l.current;
  uses : l.values.uses.items ≡ l.fn.values.uses.items;
}
