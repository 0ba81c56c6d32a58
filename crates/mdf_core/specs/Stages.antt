-- What the status of an actor says: of its arguments and its start, of where its frame halts, and of its turns.
use Rattle.std.specs.Prelude.{◌⊎◌, ℕ, zero, suc, ◌≡◌, ◌+◌, Bool, true, false, not, List, [], ◌∷◌, Option, Some, None, ℤ, if◌then◌else◌, ◌==◌, length}
use Rattle.mpl_value.specs.declared.body.BodyResult.{BodyResult}
use Rattle.mpl_value.specs.declared.body.BodyResult.TheVariants as result
use Rattle.mpl_value.specs.declared.body.BodyStart.{BodyStart}
use Rattle.mpl_value.specs.declared.body.MemberId.{MemberId}
use Rattle.mpl_value.specs.declared.known.Known.{Known}
use Rattle.mpl_value.specs.declared.known.Known.TheVariants.{Trapped}
use Rattle.mpl_value.specs.declared.known.Trap.{Trap}
use Rattle.mpl_value.specs.CallAnswers.{leftmost_trap}
use Rattle.mpl_mean.specs.Meaning.DirectRun.{main_start}
use Rattle.mdf_actor.specs.declared.status.ActorStatus.{ActorStatus}
use Rattle.mdf_actor.specs.declared.status.ActorStatus.TheVariants as status
use Rattle.mdf_code.specs.Alone.{Pending}
use Rattle.mdf_code.specs.Frames.{Needs}
use Rattle.mdf_code.specs.Told.{Called, HaltsNext, Named, Stands, Stood, Told, has_given}
use Rattle.mdf_code.specs.Yields.{member_is_regular, regular_start}
use Rattle.mdf_core.specs.Actors.{Actor, Call, Fate, Open, Is, arguments_of, is_post, member_of, port_words}
use Rattle.mdf_core.specs.Enabled.{ending_at}
use Rattle.mdf_core.specs.Events.{Ending, Event, Fire}
use Rattle.mdf_core.specs.Steps.{Log, result_at_end}
use Rattle.mdf_core.specs.Worlds.{Job}

-- ---- starts

-- `main` starts with the input, and the body of a regular member with the words of its ports
pub data StartsPlain (job : Job) (call : Call) (ports : List (Option Known)) (start : BodyStart) : Type 0 where
  OfMain : call.member ≡ None → start ≡ main_start job.input → StartsPlain job call ports start
  OfMember : (member : MemberId) → call.member ≡ Some member → start ≡ regular_start member.0 (port_words ports) → StartsPlain job call ports start

-- the body of an accepted call starts with a number and the object's state
pub record StartsAccepted (call : Call) (ports : List (Option Known)) (start : BodyStart) : Type 0 where
  pub number : ℕ
  pub state : List ℤ
  pub is : start ≡ record { member = Some (member_of call); args = port_words ports; state = state; object = call.object; number = number; input = [] }

abbrev pub StartsAs : Job → Call → List (Option Known) → BodyStart → Bool → Type 0
StartsAs job call ports start true = StartsAccepted call ports start
StartsAs job call ports start false = StartsPlain job call ports start

-- all arguments are known, none is a trap, and the start is decided
pub record Starts (job : Job) (x : Actor) : Type 0 where
  pub untrapped : leftmost_trap (arguments_of x.ports) ≡ None
  pub start : StartsAs job x.call x.ports x.start (is_post x.call)

-- an actor with a trap among its arguments has the leftmost one as its result
pub record IsPoisoned (x : Actor) : Type 0 where
  pub trap : Trap
  pub leftmost : leftmost_trap (arguments_of x.ports) ≡ Some trap
  pub is : x.fate ≡ Is (Trapped trap)

abbrev pub HasArguments : Job → Actor → ActorStatus → Type 0
HasArguments job x (status.Waiting zero) = (is_post x.call ≡ true) × (leftmost_trap (arguments_of x.ports) ≡ None)
HasArguments job x (status.Waiting (suc missing)) = Unit {0}
HasArguments job x status.Ready = Starts job x
HasArguments job x status.Running = Starts job x
HasArguments job x (status.Parked child) = Starts job x
HasArguments job x status.Ended = Starts job x
HasArguments job x status.Poisoned = IsPoisoned x

-- ---- halts

-- a frame that was put away needs the result of a call
pub record HaltsParked (job : Job) (x : Actor) (child : ℕ) : Type 0 where
  pub stood : Stood
  pub halts : HaltsNext job.image x.start x.told stood
  pub call : ℕ
  pub needs : stood.halt ≡ Stands (Needs (Pending call))
  pub is : x.child call ≡ Some child
  pub counted : x.counted ≡ stood.turns

-- a frame that runs has counted nothing since its last event, or the turns to the stop where it was parked
pub record HaltsAgain (job : Job) (x : Actor) : Type 0 where
  pub stood : Stood
  pub halts : HaltsNext job.image x.start x.told stood
  pub counted : x.counted ≡ stood.turns

-- what an open result becomes at the end
abbrev pub fate_of : BodyResult → Fate
fate_of result.Open = Open
fate_of (result.Known known) = Is known
fate_of result.Unknown = Open

-- a frame that ended came to an end of its code, and a result that it hasn't given is what the end says
pub record HaltsEnded (job : Job) (x : Actor) : Type 0 where
  pub stood : Stood
  pub halts : HaltsNext job.image x.start x.told stood
  pub ending : Ending
  pub ends : ending_at stood.halt ≡ Some ending
  pub counted : x.counted ≡ stood.turns
  pub result : has_given x.told ≡ false → x.fate ≡ fate_of (result_at_end job x ending)

abbrev pub Halted : Job → Actor → ActorStatus → Type 0
Halted job x (status.Waiting missing) = Unit {0}
Halted job x status.Ready = Unit {0}
Halted job x status.Running = (x.counted ≡ 0) ⊎ HaltsAgain job x
Halted job x (status.Parked child) = HaltsParked job x child
Halted job x status.Ended = HaltsEnded job x
Halted job x status.Poisoned = Unit {0}

-- ---- turns

-- a call and an object cost a turn
abbrev pub cost : Told → ℕ
cost Called = 1
cost (Named object) = 1
cost told = 0

-- the turns of a frame up to what it was told, and one for its start
abbrev pub TurnsUpTo : Job → BodyStart → List Told → ℕ → Type 0
TurnsUpTo job start [] n = n ≡ 1
TurnsUpTo job start (told ∷ before) n =
    (m : ℕ) × (stood : Stood) × HaltsNext job.image start before stood × TurnsUpTo job start before m × (n ≡ m + stood.turns + cost told)

-- those up to what it was told last, and those of the stop where it stands that were counted
pub record Began (job : Job) (x : Actor) : Type 0 where
  pub upto : ℕ
  pub turns : TurnsUpTo job x.start x.told upto
  pub spent : x.spent ≡ upto + x.counted

-- an actor that hasn't begun has no turns
pub record Idle (x : Actor) : Type 0 where
  pub told : x.told ≡ []
  pub counted : x.counted ≡ 0
  pub spent : x.spent ≡ 0

abbrev pub HasTurns : Job → Actor → ActorStatus → Type 0
HasTurns job x (status.Waiting missing) = Idle x
HasTurns job x status.Ready = Idle x
HasTurns job x status.Running = Began job x
HasTurns job x (status.Parked child) = Began job x
HasTurns job x status.Ended = Began job x
HasTurns job x status.Poisoned = Idle x

-- ---- members

-- A call is one on an object where its member isn't of a regular class. There is a port for each argument, and `main` has
-- none.
pub record HasMember (job : Job) (x : Actor) : Type 0 where
  pub post : (member : MemberId) → x.call.member ≡ Some member → is_post x.call ≡ not (member_is_regular job.image member.0)
  pub alone : x.call.member ≡ None → x.ports ≡ []
  pub sized : length x.ports ≡ length x.call.arguments

-- ---- all of it

pub record AsItsStatus (job : Job) (x : Actor) : Type 0 where
  pub member : HasMember job x
  pub arguments : HasArguments job x x.status
  pub halted : Halted job x x.status
  pub turns : HasTurns job x x.status

-- ---- how often an actor fires

abbrev pub fires : ℕ → Event → ℕ
fires a (Fire b) = if b == a then 1 else 0
fires a other = 0

abbrev pub times_fired : ℕ → Log → ℕ
times_fired a [] = 0
times_fired a (event ∷ before) = fires a event + times_fired a before

abbrev pub has_begun : ActorStatus → Bool
has_begun (status.Waiting missing) = false
has_begun status.Ready = false
has_begun status.Running = true
has_begun (status.Parked child) = true
has_begun status.Ended = true
has_begun status.Poisoned = false

abbrev pub once_if : Bool → ℕ
once_if true = 1
once_if false = 0
