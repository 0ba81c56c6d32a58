-- Where `main` is in a machine at rest.
use Rattle.std.specs.Prelude.{ℕ, ◌≡◌, ◌<◌, Some, None}
use Rattle.mdf_actor.specs.declared.status.ActorStatus.{ActorStatus}
use Rattle.mdf_actor.specs.declared.status.ActorStatus.TheVariants as status
use Rattle.mdf_core.specs.Worlds.{World, known_at}

-- it has ended, or it is parked on a result that isn't known
pub data MainRests (w : World) (s : ActorStatus) : Type 0 where
  HasEnded : s ≡ status.Ended → MainRests w s
  IsParked : (child : ℕ) → s ≡ status.Parked child → known_at w (Some child) ≡ None → MainRests w s
