use Rattle.std.proofs.Common.{◌≡◌, ◌≤◌, length, reverse, take}
use Rattle.std.specs.Prelude.{flat_map}
use Rattle.mpl_mean.specs.TypeRules.Types.{first_named}
use Rattle.mpl_scope.proofs.scope.local.Given as goal

-- the blocks that were passed don't have the name
abbrev pub invariant-loop-left : goal.invariant-loop-left
invariant-loop-left l = record {
  within : l.left ≤ length l.blocks;
  same : first_named l.name (flat_map (λ block. block) (reverse (take l.left l.blocks))) ≡ first_named l.name (flat_map (λ block. block) (reverse l.blocks));
}

abbrev pub decreases-loop-left : goal.decreases-loop-left
decreases-loop-left l = l.left
