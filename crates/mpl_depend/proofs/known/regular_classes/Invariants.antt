use Rattle.std.proofs.Common.{◌≡◌, ℕ, List, drop}
use Rattle.mpl_scope.specs.First.{at, or_else}
use Rattle.mpl_depend.specs.Internal.Regular.{regular_among}
use Rattle.mpl_depend.proofs.known.regular_classes.Given as goal

abbrev pub invariant-loop-declaration : goal.invariant-loop-declaration
invariant-loop-declaration l = (name : List ℕ) → or_else (at l.regular name) (regular_among name (drop l.declaration-index l.declarations)) ≡ regular_among name l.declarations
