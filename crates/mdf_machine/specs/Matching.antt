-- A due token goes where it is due.
use Rattle.std.specs.Prelude.{ℕ, ◌≡◌, Option, Some, None, slice_get}
use Rattle.mdf_core.specs.Actors.{Arc, Target, Port, Result}
use Rattle.mdf_core.specs.Events.{Match}
use Rattle.mdf_future.specs.declared.consumer.Consumer.{Consumer}
use Rattle.mdf_future.specs.declared.consumer.Consumer.TheVariants as consumer
use Rattle.mdf_machine.specs.Courses.{Course, then, world_of}

-- where it is due
abbrev pub IsDueTo : Target → Consumer → Type 0
IsDueTo (Port actor port) to = to ≡ consumer.Port (record { actor = actor; port = port })
IsDueTo (Result actor) to = to ≡ consumer.Result actor

-- the token at a place has gone, if there is one
abbrev pub HasMatched : ℕ → Course → Course → Option Consumer → Type 0
HasMatched place before after None = (slice_get (world_of before).due place ≡ None) × (after ≡ before)
HasMatched place before after (Some to) = (arc : Arc) × (slice_get (world_of before).due place ≡ Some arc) × IsDueTo arc.to to × (after ≡ then (Match place) before)
