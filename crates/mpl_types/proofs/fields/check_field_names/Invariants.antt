use Rattle.std.proofs.Common.{◌≡◌, ◌++◌, drop}
use Rattle.mpl_types.specs.Internal.Least.{earlier}
use Rattle.mpl_types.specs.Internal.Outlines.{field_names_least, names_of}
use Rattle.mpl_types.specs.Internal.Seen.{failure_of}
use Rattle.mpl_types.proofs.fields.check_field_names.Given as goal

-- what failed so far, with what fails among those that are left; and their names
abbrev pub invariant-loop-field : goal.invariant-loop-field
invariant-loop-field l = record {
  least : earlier (failure_of l.found) (field_names_least l.type_name l.names (drop l.field-index l.fields)) ≡ field_names_least l.type_name l.initial.names l.fields;
  names : l.names ++ names_of (drop l.field-index l.fields) ≡ l.initial.names ++ names_of l.fields;
}
