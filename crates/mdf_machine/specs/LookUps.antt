-- What is told of an actor by its serial number.
use Rattle.std.specs.Prelude.{ℕ, ◌≡◌, ◌<◌, nat_lt, Option, Some, None, if◌then◌else◌}
use Rattle.mpl_value.specs.declared.known.Known.{Known}
use Rattle.mdf_actor.specs.declared.status.ActorStatus.{ActorStatus}
use Rattle.mdf_actor.specs.declared.status.ActorStatus.TheVariants.{Parked}
use Rattle.mdf_core.specs.declared.status.MachineStatus.TheVariants.{Going}
use Rattle.mdf_core.specs.Worlds.{World, known_at}

-- there is such an actor, and this is its status
abbrev pub status_in : World → ℕ → Option ActorStatus
status_in w a = if nat_lt a w.count then Some (w.actors a).status else None

-- in a machine that goes on, an actor is parked on the result of another one, and that is known
pub record IsWoken (w : World) (child a : ℕ) : Type 0 where
  pub going : w.why ≡ Going
  pub there : a < w.count
  pub parked : (w.actors a).status ≡ Parked child
  pub known : Known
  pub is : known_at w (Some child) ≡ Some known

-- the result of an actor wakes this one, or none
abbrev pub Wakes : World → ℕ → Option ℕ → Type 0
Wakes w child (Some a) = IsWoken w child a
Wakes w child None = (a : ℕ) → IsWoken w child a → ⊥
