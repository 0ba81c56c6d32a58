use Rattle.std.proofs.Common.{◌≡◌, drop}
use Rattle.mpl_depend.proofs.Merges.{Opening}
use Rattle.mpl_depend.proofs.merging.open.Given as goal

abbrev pub invariant-loop-one : goal.invariant-loop-one
invariant-loop-one l = record {
  opening : Opening l.saved (drop l.one-index l.saved) l.first l.values.count l.fn.values.edges.items l.values.edges.items l.fn.current l.current;
  uses : l.values.uses.items ≡ l.fn.values.uses.items;
}
