use Rattle.std.proofs.Common.{◌≡◌, ◌++◌, drop}
use Rattle.mpl_mean.specs.Meaning.Layout.{state_of}
use Rattle.mpl_mean.specs.TypeRules.Types.{InState, declared_fields}
use Rattle.mpl_scope.proofs.names.Names.of_state.Given as goal

-- those so far and those that are left are all
abbrev pub invariant-loop-item : goal.invariant-loop-item
invariant-loop-item l = l.names ++ declared_fields InState (state_of (drop l.item-index l.items)) ≡ declared_fields InState (state_of l.items)
