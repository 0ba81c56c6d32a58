use Rattle.std.proofs.Common.{◌≡◌, ◌+◌, ◌≤◌, drop}
use Rattle.mpl_trees.specs.Folds.{count_pieces, operators_in}
use Rattle.mpl_folds.proofs.fold.Row.operators.Given as goal

abbrev pub invariant-loop-at : goal.invariant-loop-at
invariant-loop-at l = record {
  counted : l.found + count_pieces l.level (drop l.at l.self.pieces.items) ≡ operators_in l.level l.self.pieces.items;
  few : l.found + 1 ≤ l.at;
}
