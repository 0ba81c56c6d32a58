-- Who can go on when a result becomes known.
use Rattle.std.specs.Prelude.{ℕ, ◌≡◌, ◌<◌, ◌==◌, Bool, true, false, List, length, Option, Some, None, slice_get, slice_set}
use Rattle.mdf_actor.specs.declared.status.ActorStatus.{ActorStatus}
use Rattle.mdf_actor.specs.declared.status.ActorStatus.TheVariants as status
use Rattle.mpl_value.specs.declared.known.Known.{Known}
use Rattle.mdf_future.specs.Results.{settled}
use Rattle.mdf_machine.specs.declared.parts.Parts.{Parts}
use Rattle.mdf_machine.specs.declared.rows.Row.{Row}

-- an actor is parked on this one
abbrev pub waits_for : ℕ → Option ActorStatus → Bool
waits_for child None = false
waits_for child (Some (status.Waiting missing)) = false
waits_for child (Some status.Ready) = false
waits_for child (Some status.Running) = false
waits_for child (Some (status.Parked on)) = on == child
waits_for child (Some status.Ended) = false
waits_for child (Some status.Poisoned) = false

abbrev pub woken_if : List Bool → ℕ → Bool → List Bool
woken_if marks caller true = slice_set marks caller true
woken_if marks caller false = marks

abbrev pub woken_at : Parts → ℕ → Option Row → List Bool
woken_at p child None = p.going
woken_at p child (Some row) = woken_if p.going row.caller (waits_for child (slice_get p.statuses row.caller))

abbrev pub woken : Parts → ℕ → List Bool
woken p child = woken_at p child (slice_get p.rows child)

-- the caller of an actor is there
pub record HasCaller (p : Parts) (actor : ℕ) : Type 0 where
  pub status : (row : Row) → slice_get p.rows actor ≡ Some row → row.caller < length p.statuses
  pub mark : (row : Row) → slice_get p.rows actor ≡ Some row → row.caller < length p.going

-- with a result that is known
abbrev pub with_known : Parts → ℕ → Known → Parts
with_known p actor known = record p { results = settled p.results actor known; going = woken p actor }
