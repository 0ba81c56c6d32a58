-- What a token that comes does to what is kept.
use Rattle.std.specs.Prelude.{ℕ, zero, suc, Bool, true, false, Option, Some, None, is_some, slice_set}
use Rattle.std.specs.FinMap.{get}
use Rattle.mpl_value.specs.declared.known.Known.{Known}
use Rattle.mpl_value.specs.declared.known.Known.TheVariants.{Trapped}
use Rattle.mpl_value.specs.declared.known.Trap.{Trap}
use Rattle.mpl_value.specs.CallAnswers.{leftmost_trap}
use Rattle.mdf_actor.specs.declared.status.ActorStatus.TheVariants as status
use Rattle.mdf_core.specs.Actors.{arguments_of}
use Rattle.mdf_future.specs.declared.consumer.Consumer.{Consumer}
use Rattle.mdf_future.specs.declared.consumer.Consumer.TheVariants as consumer
use Rattle.mdf_future.specs.declared.future.Fate.{Fate}
use Rattle.mdf_future.specs.declared.future.Fate.TheVariants as fate
use Rattle.mdf_future.specs.declared.future.Future.{Future}
use Rattle.mdf_match.specs.declared.token.Tag.{Tag}
use Rattle.mdf_match.specs.Ports.{Row, filled, known_at, missing_in, row_of}
use Rattle.mdf_machine.specs.declared.parts.Parts.{Parts}
use Rattle.mdf_machine.specs.Internal.Settling.{with_known}

-- ---- ports

-- all arguments of an actor have come, with this leftmost trap among them
abbrev pub completed : Parts → ℕ → Option Trap → Parts
completed p actor None = record p { statuses = slice_set p.statuses actor status.Ready; going = slice_set p.going actor true }
completed p actor (Some trap) = with_known (record p { statuses = slice_set p.statuses actor status.Poisoned }) actor (Trapped trap)

-- so many arguments of an actor are still to come
abbrev pub waiting_for : Parts → ℕ → Row → ℕ → Parts
waiting_for p actor row zero = completed p actor (leftmost_trap (arguments_of row))
waiting_for p actor row (suc missing) = record p { statuses = slice_set p.statuses actor (status.Waiting (suc missing)) }

abbrev pub counted : Parts → ℕ → Parts
counted p actor = waiting_for p actor (row_of p.ports actor) (missing_in (row_of p.ports actor))

abbrev pub filled_if : Bool → Parts → Tag → Known → Parts
filled_if true p tag known = p
filled_if false p tag known = counted (record p { ports = filled p.ports (record { tag = tag; known = known }) }) tag.actor

-- ---- results

abbrev pub followed_by : Parts → ℕ → Known → Fate → Parts
followed_by p actor known fate.Open = p
followed_by p actor known (fate.Known other) = p
followed_by p actor known (fate.Forwarded child) = with_known p actor known

abbrev pub followed_at : Parts → ℕ → Known → Option Future → Parts
followed_at p actor known None = p
followed_at p actor known (Some future) = followed_by p actor known future.fate

abbrev pub followed : Parts → ℕ → Known → Parts
followed p actor known = followed_at p actor known (get p.results.results actor)

-- ---- tokens

abbrev pub brought : Parts → Known → Consumer → Parts
brought p known (consumer.Port tag) = filled_if (is_some (known_at p.ports tag)) p tag known
brought p known (consumer.Parked actor) = p
brought p known (consumer.Result actor) = followed p actor known
