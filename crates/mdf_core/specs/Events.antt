-- What happens in a machine. Actors have serial numbers, and `main` is 0. A call within a frame has its number among the
-- calls of that frame, from 1.
use Rattle.std.specs.Prelude.{ℕ, List, ℤ}
use Rattle.mpl_value.specs.declared.known.Trap.{Trap}
use Rattle.mdf_code.specs.Alone.{Held}
use Rattle.mdf_core.specs.declared.status.MachineStatus.{MachineStatus}

-- how a frame ends: at the end of its code, with the line where a result was missed, or by a trap
pub data Ending : Type 0 where
  Finishes : (line : ℕ) → Ending
  Fails : (trap : Trap) → Ending

-- `turns` are those of loop tests and plain functions since the actor's last event.
pub data Event : Type 0 where
  -- a frame begins
  Fire : (actor : ℕ) → Event
  -- a call, whose actor is new
  Send : (actor turns callee member : ℕ) (object : ℤ) (arguments : List Held) → Event
  Create : (actor turns class : ℕ) (object : ℤ) → Event
  -- a frame takes the result of one of its calls
  Learn : (actor turns call : ℕ) → Event
  -- a frame is put away until the result of one of its calls is known
  Park : (actor turns call : ℕ) → Event
  Resume : (actor : ℕ) → Event
  -- a frame gives its actor's result
  Reply : (actor turns : ℕ) (value : Held) → Event
  End : (actor turns : ℕ) (ending : Ending) (state : List ℤ) → Event
  -- as many turns as there may be between two events of a frame
  Beat : (actor : ℕ) → Event
  -- the due token at a place, the oldest at 0, goes where it is due
  Match : (place : ℕ) → Event
  -- a call comes to its object, by its actor
  Arrive : (actor : ℕ) → Event
  -- an object accepts the call of an actor, as the body of this number
  Accept : (object : ℤ) (actor number : ℕ) → Event
  -- the machine ends
  Quit : (why : MachineStatus) → Event
