-- Ways as the definitions have them.
use Rattle.std.specs.Prelude.{List, [], ◌∷◌}
use Rattle.mpl_mean.specs.Pending.Looseness as seen
use Rattle.mpl_mean.specs.Pending.Paths as paths
use Rattle.mpl_depend.specs.declared.ways.Event.{Event}
use Rattle.mpl_depend.specs.declared.ways.Event.TheVariants as event
use Rattle.mpl_depend.specs.declared.ways.Ways.{Ways, fold-Ways}
use Rattle.mpl_depend.specs.declared.ways.Ways.TheOpen.{Ways-F}

abbrev pub event_seen : Event → seen.Event
event_seen (event.Loosens variable) = seen.Loosens variable
event_seen (event.Settles variable) = seen.Settles variable
event_seen (event.Copies into from) = seen.Copies into from
event_seen (event.Forces node variable) = seen.Forces node variable

-- one after another
abbrev pub all_seen : List paths.Ways → paths.Ways
all_seen [] = paths.NoEvent
all_seen (ways ∷ others) = paths.Then ways (all_seen others)

abbrev pub ways_step : Ways-F paths.Ways → paths.Ways
ways_step Ways-F.Nothing = paths.NoEvent
ways_step (Ways-F.Only event) = paths.Only (event_seen event)
ways_step (Ways-F.Then first second) = paths.Then first second
ways_step (Ways-F.All list) = all_seen list
ways_step (Ways-F.Either one other) = paths.Either one other
ways_step (Ways-F.Loop test body) = paths.Loop test body
ways_step Ways-F.Stop = paths.Stop

abbrev pub ways_seen : Ways → paths.Ways
ways_seen = fold-Ways paths.Ways ways_step
