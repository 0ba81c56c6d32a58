use Rattle.std.proofs.Common.{◌≡◌, drop}
use Rattle.std.specs.Prelude.{flat_map}
use Rattle.mpl_ast.specs.declared.class.Entry.{Entry}
use Rattle.mpl_mean.specs.TypeRules.ProgramNodes.{guards_of_entry}
use Rattle.mpl_mean.specs.TypeRules.Scopes.{at_top, in_class}
use Rattle.mpl_types.specs.Internal.Programs.{insides_least}
use Rattle.mpl_types.specs.Internal.Least.{earlier}
use Rattle.mpl_types.specs.Internal.Seen.{failure_of}
use Rattle.mpl_types.proofs.bodies.check_entries.Given as goal

-- what failed so far, with what fails among those that are left
abbrev pub invariant-loop-entry : goal.invariant-loop-entry
invariant-loop-entry l =
    earlier (failure_of l.found) (insides_least (flat_map (λ (entry : Entry). guards_of_entry (in_class l.class (at_top l.outline)) l.class.items entry.member entry.guard) (drop l.entry-index l.entries)))
    ≡ insides_least (flat_map (λ (entry : Entry). guards_of_entry (in_class l.class (at_top l.outline)) l.class.items entry.member entry.guard) l.entries)
