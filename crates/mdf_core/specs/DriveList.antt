-- What may come next, in the order in which a machine without picks goes: first the due tokens, then the calls that may
-- arrive, then the objects that may accept, in the order in which they were created, and then the actors that can go on.
use Rattle.std.specs.Prelude.{ℕ, zero, List, [], ◌++◌, map, reverse, length, Option, Some, None, if◌then◌else◌, ℤ}
use Rattle.std.specs.List.{filter_map, range_with_len}
use Rattle.mpl_value.specs.declared.known.Known.{Known}
use Rattle.mdf_actor.specs.declared.status.ActorStatus.{ActorStatus}
use Rattle.mdf_actor.specs.declared.status.ActorStatus.TheVariants as status
use Rattle.mdf_core.specs.declared.item.Item.{Item}
use Rattle.mdf_core.specs.declared.item.Item.TheVariants as item
use Rattle.mdf_core.specs.declared.status.MachineStatus.{MachineStatus}
use Rattle.mdf_core.specs.declared.status.MachineStatus.TheVariants.{Going, Rest, Spent}
use Rattle.mdf_core.specs.Choices.{pick_of}
use Rattle.mdf_core.specs.Worlds.{Job, World, is_in, known_at}

abbrev pub serials : World → List ℕ
serials w = range_with_len 0 w.count

abbrev pub due_items : World → List Item
due_items w = map item.Match (range_with_len 0 (length w.due))

-- a call on an object with all arguments known, which hasn't arrived
abbrev pub arriving : World → ℕ → ActorStatus → Option Item
arriving w a (status.Waiting zero) = if is_in a w.arrived then None else Some (item.Arrive a)
arriving w a other = None

abbrev pub arrive_items : World → List Item
arrive_items w = filter_map (λ a. arriving w a (w.actors a).status) (serials w)

abbrev pub accepting : ℤ → Option ℕ → Option Item
accepting o None = None
accepting o (Some actor) = Some (item.Accept o)

abbrev pub accept_items : Job → World → List Item
accept_items job w = filter_map (λ o. accepting o (pick_of job w o)) (reverse w.created)

abbrev pub resuming : ℕ → Option Known → Option Item
resuming a None = None
resuming a (Some known) = Some (item.Resume a)

abbrev pub going_on : World → ℕ → ActorStatus → Option Item
going_on w a (status.Waiting missing) = None
going_on w a status.Ready = Some (item.Fire a)
going_on w a status.Running = Some (item.Run a)
going_on w a (status.Parked child) = resuming a (known_at w (Some child))
going_on w a status.Ended = None
going_on w a status.Poisoned = None

abbrev pub actor_items : World → List Item
actor_items w = filter_map (λ a. going_on w a (w.actors a).status) (serials w)

abbrev pub going_items : Job → World → List Item
going_items job w = due_items w ++ (arrive_items w ++ (accept_items job w ++ actor_items w))

abbrev pub items_at : MachineStatus → Job → World → List Item
items_at Going job w = going_items job w
items_at Rest job w = []
items_at Spent job w = []

-- A machine that has ended has nothing to do.
abbrev pub items : Job → World → List Item
items job w = items_at w.why job w
