use Rattle.std.proofs.Common.{◌≡◌, ℕ, List, drop}
use Rattle.mpl_mean.specs.Meaning.Layout.{meant_by}
use Rattle.mpl_scope.specs.First.{at}
use Rattle.mpl_layout.specs.SeenNamed.{named_or}
use Rattle.mpl_layout.proofs.named.types_of.Given as goal

-- the table, and the declarations that are left, have the first of each name
abbrev pub invariant-loop-declaration : goal.invariant-loop-declaration
invariant-loop-declaration l = (q : List ℕ) → named_or q (at l.types q) (meant_by q (drop l.declaration-index l.declarations)) ≡ meant_by q l.declarations
