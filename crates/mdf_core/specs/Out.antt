-- The actors that events name, and those whose frames are out.
use Rattle.std.specs.Prelude.{ℕ, ◌==◌, Bool, true, false, List, [], ◌∷◌, reverse, Option, Some, None, if◌then◌else◌}
use Rattle.mdf_core.specs.Events.{Event, Fire, Send, Create, Learn, Park, Resume, Reply, End, Beat, Match, Arrive, Accept, Quit}
use Rattle.mdf_core.specs.Steps.{Log}

-- the actor whose frame an event is of
abbrev pub actor_of : Event → Option ℕ
actor_of (Fire a) = Some a
actor_of (Send a turns callee member object arguments) = Some a
actor_of (Create a turns class object) = Some a
actor_of (Learn a turns call) = Some a
actor_of (Park a turns call) = Some a
actor_of (Resume a) = Some a
actor_of (Reply a turns value) = Some a
actor_of (End a turns ending state) = Some a
actor_of (Beat a) = Some a
actor_of (Match place) = None
actor_of (Arrive a) = None
actor_of (Accept object a number) = None
actor_of (Quit why) = None

-- whether an event takes the frame of its actor out, or puts it back
abbrev pub moves : Event → Option Bool
moves (Fire a) = Some true
moves (Resume a) = Some true
moves (Park a turns call) = Some false
moves (End a turns ending state) = Some false
moves (Send a turns callee member object arguments) = None
moves (Create a turns class object) = None
moves (Learn a turns call) = None
moves (Reply a turns value) = None
moves (Beat a) = None
moves (Match place) = None
moves (Arrive a) = None
moves (Accept object a number) = None
moves (Quit why) = None

abbrev pub is_actor : ℕ → Option ℕ → Bool
is_actor a None = false
is_actor a (Some b) = b == a

abbrev pub moved : Bool → Option Bool → Bool
moved before None = before
moved before (Some out) = out

-- An actor is out after a log, the newest event of which comes first, where it was taken out and not put back since.
abbrev pub is_out : Log → ℕ → Bool
is_out [] a = false
is_out (event ∷ before) a = if is_actor a (actor_of event) then moved (is_out before a) (moves event) else is_out before a

-- the same of a log whose oldest event comes first
abbrev pub is_out_in_order : List Event → ℕ → Bool
is_out_in_order events = is_out (reverse events)

abbrev pub ends_machine : Event → Bool
ends_machine (Quit why) = true
ends_machine other = false

-- whether the machine has ended
abbrev pub has_ended : Log → Bool
has_ended [] = false
has_ended (event ∷ before) = if ends_machine event then true else has_ended before
