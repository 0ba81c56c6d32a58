use Rattle.std.proofs.Common.{◌≡◌, drop}
use Rattle.mpl_types.specs.Internal.Outlines.{entries_least}
use Rattle.mpl_types.specs.Internal.Least.{earlier}
use Rattle.mpl_types.specs.Internal.Seen.{failure_of}
use Rattle.mpl_types.proofs.classes.check_entries.Given as goal

-- what failed so far, with what fails among those that are left
abbrev pub invariant-loop-i : goal.invariant-loop-i
invariant-loop-i l =
    earlier (failure_of l.found) (entries_least l.class l.i (drop l.i l.entries))
    ≡ entries_least l.class 0 l.entries
