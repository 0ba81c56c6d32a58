-- Where the statuses of actors stand: in the nodes of those that aren't over, and else in their places.
use Rattle.std.specs.Prelude.{◌≡◌, ℕ, List, IsSomeAnd, slice_index_or}
use Rattle.std.specs.Option.{option_map_or}
use Rattle.slab.specs.Slab.{Slab, get}
use Rattle.mdf_actor.specs.declared.status.ActorStatus.{ActorStatus}
use Rattle.mdf_actor.specs.declared.status.ActorStatus.TheVariants as status
use Rattle.mdf_actor.specs.declared.node.Node.{Node}
use Rattle.mdf_actor.specs.declared.node.Place.{Place}
use Rattle.mdf_actor.specs.declared.node.Place.TheVariants as place

-- the status that stands at a place
abbrev pub status_at : Slab Node → Place → ActorStatus
status_at nodes (place.Node key) = option_map_or (λ n. n.status) (get nodes key) status.Ended
status_at nodes place.Ended = status.Ended
status_at nodes place.Poisoned = status.Poisoned

-- the place of an actor by its serial number
abbrev pub place_of : List Place → ℕ → Place
place_of places actor = slice_index_or places actor place.Ended

-- each key is that of a node which names the actor, so no two actors have one node
abbrev pub IsTied : Slab Node → List Place → Type 0
IsTied nodes places = (actor key : ℕ) → place_of places actor ≡ place.Node key → IsSomeAnd (get nodes key) (λ n. n.actor ≡ actor)

-- a node at this place, if any, is under this key, and names the actor
abbrev pub HoldsAt : Slab Node → Place → ℕ → ℕ → Type 0
HoldsAt nodes (place.Node at) key actor = (at ≡ key) × IsSomeAnd (get nodes key) (λ n. n.actor ≡ actor)
HoldsAt nodes place.Ended key actor = Unit {0}
HoldsAt nodes place.Poisoned key actor = Unit {0}
