-- The drive list of a machine without persistent objects: the due tokens, and then the actors that can go on, as they rise.
use Rattle.std.specs.Prelude.{ℕ, ◌≡◌, ◌<◌, ◌-◌, nat_lt, Bool, true, false, List, length, map, slice_get, Option, Some, is_some, if◌then◌else◌}
use Rattle.std.specs.List.{items_where_true, range_with_len}
use Rattle.std.specs.Option.{option_map}
use Rattle.mdf_actor.specs.declared.status.ActorStatus.{ActorStatus}
use Rattle.mdf_actor.specs.declared.status.ActorStatus.TheVariants as status
use Rattle.mdf_core.specs.declared.item.Item.{Item}
use Rattle.mdf_core.specs.declared.item.Item.TheVariants as item
use Rattle.mdf_core.specs.Worlds.{World, known_at}

-- whether an actor can go on
abbrev pub goes_on : World → ActorStatus → Bool
goes_on w (status.Waiting missing) = false
goes_on w status.Ready = true
goes_on w status.Running = true
goes_on w (status.Parked child) = is_some (known_at w (Some child))
goes_on w status.Ended = false
goes_on w status.Poisoned = false

-- what it does then; of one that can't go on this is of no account
abbrev pub next_of : ℕ → ActorStatus → Item
next_of a (status.Waiting missing) = item.Run a
next_of a status.Ready = item.Fire a
next_of a status.Running = item.Run a
next_of a (status.Parked child) = item.Resume a
next_of a status.Ended = item.Run a
next_of a status.Poisoned = item.Run a

abbrev pub next_in : World → ℕ → Item
next_in w a = next_of a (w.actors a).status

-- a list says of each actor whether it can go on
pub record MarksWhoGoes (w : World) (marks : List Bool) : Type 0 where
  pub many : length marks ≡ w.count
  pub each : (a : ℕ) → a < w.count → slice_get marks a ≡ Some (goes_on w (w.actors a).status)

-- the serials at which it says so, rising
abbrev pub marked : List Bool → List ℕ
marked marks = items_where_true marks (range_with_len 0 (length marks))

abbrev pub next_items : World → List Bool → List Item
next_items w marks = map (next_in w) (marked marks)

-- the item at a place
abbrev pub item_at : World → List Bool → ℕ → Option Item
item_at w marks place =
    if nat_lt place (length w.due) then Some (item.Match place) else option_map (next_in w) (slice_get (marked marks) (place - length w.due))
