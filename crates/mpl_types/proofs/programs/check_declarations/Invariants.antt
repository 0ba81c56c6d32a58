use Rattle.std.proofs.Common.{◌≡◌, [], drop}
use Rattle.std.specs.Prelude.{flat_map}
use Rattle.mpl_mean.specs.TypeRules.ProgramNodes.{inside_declaration}
use Rattle.mpl_mean.specs.TypeRules.Scopes.{at_top}
use Rattle.mpl_types.specs.Internal.Outlines.{declarations_least}
use Rattle.mpl_types.specs.Internal.Programs.{insides_least}
use Rattle.mpl_types.specs.Internal.Least.{earlier}
use Rattle.mpl_types.specs.Internal.Seen.{failure_of}
use Rattle.mpl_types.proofs.programs.check_declarations.Given as goal

-- what failed so far, with what fails among those that are left
abbrev pub invariant-loop-i : goal.invariant-loop-i
invariant-loop-i l = record {
  outline :
      earlier (failure_of l.found) (declarations_least l.outline l.i l.names (drop l.i l.declarations))
      ≡ declarations_least l.outline 0 [] l.declarations;
  insides :
      earlier (failure_of l.inside) (insides_least (flat_map (inside_declaration (at_top l.outline)) (drop l.i l.declarations)))
      ≡ insides_least (flat_map (inside_declaration (at_top l.outline)) l.declarations);
}
