-- Which statuses are the last of an actor.
use Rattle.std.specs.Prelude.{Bool, true, false}
use Rattle.mdf_actor.specs.declared.status.ActorStatus.{ActorStatus}
use Rattle.mdf_actor.specs.declared.status.ActorStatus.TheVariants.{Waiting, Ready, Running, Parked, Ended, Poisoned}

abbrev pub is_over : ActorStatus → Bool
is_over (Waiting _) = false
is_over Ready = false
is_over Running = false
is_over (Parked _) = false
is_over Ended = true
is_over Poisoned = true
