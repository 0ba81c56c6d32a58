use Rattle.std.proofs.Common.{◌≡◌, drop}
use Rattle.mpl_depend.proofs.Merges.{Closing}
use Rattle.mpl_depend.proofs.merging.close.Given as goal

abbrev pub invariant-loop-one : goal.invariant-loop-one
invariant-loop-one l = record {
  closing : Closing l.saved (drop l.one-index l.saved) l.fn.values.edges.items l.values.edges.items l.current;
  count : l.values.count ≡ l.fn.values.count;
  uses : l.values.uses.items ≡ l.fn.values.uses.items;
}
