use Rattle.std.proofs.Common.{◌≡◌, [], drop}
use Rattle.mpl_types.specs.Internal.Outlines.{fields_least}
use Rattle.mpl_types.specs.Internal.Least.{earlier}
use Rattle.mpl_types.specs.Internal.Seen.{failure_of}
use Rattle.mpl_types.proofs.fields.check_fields.Given as goal

-- what failed so far, with what fails among those that are left
abbrev pub invariant-loop-field : goal.invariant-loop-field
invariant-loop-field l =
    earlier (failure_of l.found) (fields_least l.outline l.names (drop l.field-index l.fields))
    ≡ fields_least l.outline [] l.fields
