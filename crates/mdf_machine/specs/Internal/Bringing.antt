-- Where a token may come.
use Rattle.std.specs.Prelude.{ℕ, ◌≡◌, ◌<◌, false, Option, Some, None, IsSome, IsSomeAnd, IsTrue, length, slice_get}
use Rattle.std.specs.FinMap.{get}
use Rattle.mpl_value.specs.declared.known.Known.{Known}
use Rattle.mpl_value.specs.declared.known.Known.TheVariants.{Value, Trapped}
use Rattle.mpl_value.specs.declared.known.Trap.{Trap}
use Rattle.mdf_actor.specs.Statuses.{is_over}
use Rattle.mdf_future.specs.declared.consumer.Consumer.{Consumer}
use Rattle.mdf_future.specs.declared.consumer.Consumer.TheVariants as consumer
use Rattle.mdf_future.specs.declared.future.Give.TheVariants as give
use Rattle.mdf_future.specs.Results.{may_give}
use Rattle.mdf_match.specs.declared.token.Tag.{Tag}
use Rattle.mdf_match.specs.Data.{HasFewWords}
use Rattle.mdf_match.specs.Ports.{known_at, row_of}
use Rattle.mdf_machine.specs.declared.parts.Parts.{Parts}
use Rattle.mdf_machine.specs.Internal.Settling.{HasCaller}
use Rattle.mdf_machine.specs.Internal.Starting.{HasPorts}

abbrev pub trap_in : Known → Option Trap
trap_in (Value words) = None
trap_in (Trapped trap) = Some trap

-- an actor with a result
pub record MayFollow (p : Parts) (actor : ℕ) (known : Known) : Type 0 where
  pub few : HasFewWords known
  pub there : actor < length p.rows
  pub caller : HasCaller p actor
  pub result : IsSome (get p.results.results actor)

-- an actor with ports whose status may change
pub record MayCount (p : Parts) (actor : ℕ) : Type 0 where
  pub status : IsSomeAnd (slice_get p.statuses actor) (λ kept. is_over kept ≡ false)
  pub mark : actor < length p.going
  pub there : actor < length p.rows
  pub caller : HasCaller p actor
  pub ports : HasPorts p actor
  pub opened : IsSome (get p.ports actor)
  pub may : (trap : Trap) → IsTrue (may_give p.results actor (give.Known (Trapped trap)))

-- a port; where it is empty the status of its actor may change
pub record MayFill (p : Parts) (tag : Tag) (known : Known) : Type 0 where
  pub few : HasFewWords known
  pub within : tag.port < length (row_of p.ports tag.actor)
  pub count : known_at p.ports tag ≡ None → MayCount p tag.actor

abbrev pub MayBring : Parts → Known → Consumer → Type 0
MayBring p known (consumer.Port tag) = MayFill p tag known
MayBring p known (consumer.Parked actor) = Unit {0}
MayBring p known (consumer.Result actor) = MayFollow p actor known
