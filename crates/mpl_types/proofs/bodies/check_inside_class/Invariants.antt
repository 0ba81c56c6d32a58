use Rattle.std.proofs.Common.{◌≡◌, drop}
use Rattle.std.specs.Prelude.{flat_map}
use Rattle.mpl_mean.specs.TypeRules.ProgramNodes.{inside_item}
use Rattle.mpl_mean.specs.TypeRules.Scopes.{at_top, in_class}
use Rattle.mpl_types.specs.Internal.Programs.{insides_least}
use Rattle.mpl_types.specs.Internal.Least.{earlier}
use Rattle.mpl_types.specs.Internal.Seen.{failure_of}
use Rattle.mpl_types.proofs.bodies.check_inside_class.Given as goal

-- what failed so far, with what fails among those that are left
abbrev pub invariant-loop-item : goal.invariant-loop-item
invariant-loop-item l =
    earlier (failure_of l.found) (insides_least (flat_map (inside_item (in_class l.class (at_top l.outline)) l.class.items) (drop l.item-index l.items)))
    ≡ insides_least (flat_map (inside_item (in_class l.class (at_top l.outline)) l.class.items) l.items)
