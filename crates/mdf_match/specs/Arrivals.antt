-- Values that come to the ports of one actor, one after another.
use Rattle.std.specs.Prelude.{◌≡◌, ℕ, ◌==◌, List, [], ◌∷◌, length, replicate, Some, None, slice_get, slice_set, if◌then◌else◌}
use Rattle.mpl_value.specs.declared.known.Known.{Known}
use Rattle.mdf_match.specs.Ports.{Row, ticket_of}

-- each value with its port, the first to come being the first
abbrev pub Arrivals : Type 0
Arrivals = List (ℕ × Known)

-- the ports when all have come
abbrev pub after : Row → Arrivals → Row
after row [] = row
after row ((port, known) ∷ later) = after (slice_set row port (Some known)) later

-- each comes to a port that is empty when it comes
abbrev pub ComeToEmptyPorts : Row → Arrivals → Type 0
ComeToEmptyPorts row [] = Unit {0}
ComeToEmptyPorts row ((port, known) ∷ later) = (slice_get row port ≡ Some None) × ComeToEmptyPorts (slice_set row port (Some known)) later

-- in whatever order they come, the actor may fire exactly when as many have come as it has ports
abbrev pub LastGivesTheTicket : Type 0
LastGivesTheTicket = (ports actor : ℕ) (arrivals : Arrivals) → ComeToEmptyPorts (replicate ports None) arrivals
    → ticket_of (after (replicate ports None) arrivals) actor ≡ (if length arrivals == ports then Some (record { actor = actor }) else None)
