-- Which event may come next. An event of a running actor is what its frame stops with, by the code's meaning, from the
-- start of its body and by what it was told.
use Rattle.std.specs.Prelude.{ℕ, ◌+◌, ◌<◌, ◌≤◌, ◌≡◌, false, List, [], ◌∷◌, length, slice_get, Option, Some, None, ℤ}
use Rattle.mpl_value.specs.declared.known.Known.{Known}
use Rattle.mpl_value.specs.Words.{object_word}
use Rattle.mdf_actor.specs.declared.status.ActorStatus.TheVariants as status
use Rattle.mdf_code.specs.Alone.{Held, Pending}
use Rattle.mdf_code.specs.Frames.{Calls, Creates, Ends, Needs, Replies, Strays, Traps}
use Rattle.mdf_code.specs.Told.{Beats, Halt, HaltsNext, Stands, Stood, most_turns}
use Rattle.mdf_core.specs.declared.status.MachineStatus.{MachineStatus}
use Rattle.mdf_core.specs.declared.status.MachineStatus.TheVariants as machine
use Rattle.mdf_core.specs.Actors.{Arc}
use Rattle.mdf_core.specs.Choices.{pick_of}
use Rattle.mdf_core.specs.DriveList.{items}
use Rattle.mdf_core.specs.Events.{Ending, Finishes, Fails, Event, Fire, Send, Create, Learn, Park, Resume, Reply, End, Beat, Match, Arrive, Accept, Quit}
use Rattle.mdf_core.specs.Worlds.{Job, World, is_in, known_at}
use Rattle.mdf_core.specs.Steps.{Log, after}

-- ---- running actors

-- The frame of a running actor stops there next, so many turns after the actor's last event.
pub record StopsAt (job : Job) (w : World) (a turns : ℕ) (stood : Stood) : Type 0 where
  pub there : a < w.count
  pub running : (w.actors a).status ≡ status.Running
  pub halts : HaltsNext job.image (w.actors a).start (w.actors a).told stood
  pub turns_are : stood.turns ≡ turns + (w.actors a).counted

-- it stops so
pub record Stops (job : Job) (w : World) (a turns : ℕ) (halt : Halt) : Type 0 where
  pub stood : Stood
  pub stops : StopsAt job w a turns stood
  pub is : stood.halt ≡ halt

-- a call is made while the turns are within the budget, and its actor is the next
pub record MaySend (job : Job) (w : World) (a turns callee member : ℕ) (object : ℤ) (arguments : List Held) : Type 0 where
  pub stops : Stops job w a turns (Stands (Calls member object arguments))
  pub next : callee ≡ w.count
  pub within : w.turns ≤ job.budget

-- an object is created while the turns are within the budget, and has the next word of the body
pub record MayCreate (job : Job) (w : World) (a turns class : ℕ) (object : ℤ) : Type 0 where
  pub stops : Stops job w a turns (Stands (Creates class))
  pub next : object ≡ object_word (w.actors a).start.number ((w.actors a).made + 1)
  pub within : w.turns ≤ job.budget

pub record MayLearn (job : Job) (w : World) (a turns call : ℕ) : Type 0 where
  pub stops : Stops job w a turns (Stands (Needs (Pending call)))
  pub known : Known
  pub is : known_at w ((w.actors a).child call) ≡ Some known

pub record MayPark (job : Job) (w : World) (a turns call : ℕ) : Type 0 where
  pub stops : Stops job w a turns (Stands (Needs (Pending call)))
  pub child : ℕ
  pub of_call : (w.actors a).child call ≡ Some child
  pub unknown : known_at w (Some child) ≡ None

-- the end that a frame comes to at a halt; an instruction that can't stand there is one, with line 0
abbrev pub ending_at : Halt → Option Ending
ending_at (Stands (Ends line)) = Some (Finishes line)
ending_at (Stands Strays) = Some (Finishes 0)
ending_at (Stands (Traps trap)) = Some (Fails trap)
ending_at (Stands (Calls member object arguments)) = None
ending_at (Stands (Needs value)) = None
ending_at (Stands (Replies value)) = None
ending_at (Stands (Creates class)) = None
ending_at Beats = None

-- an object has the state that the frame leaves
pub record MayEnd (job : Job) (w : World) (a turns : ℕ) (ending : Ending) (state : List ℤ) : Type 0 where
  pub stood : Stood
  pub stops : StopsAt job w a turns stood
  pub ends : ending_at stood.halt ≡ Some ending
  pub leaves : stood.frame.state ≡ state

-- ---- other events

pub record MayFire (w : World) (a : ℕ) : Type 0 where
  pub there : a < w.count
  pub ready : (w.actors a).status ≡ status.Ready

pub record MayResume (w : World) (a : ℕ) : Type 0 where
  pub there : a < w.count
  pub child : ℕ
  pub parked : (w.actors a).status ≡ status.Parked child
  pub known : Known
  pub is : known_at w (Some child) ≡ Some known

-- a call on an object with all arguments known arrives once
pub record MayArrive (w : World) (a : ℕ) : Type 0 where
  pub there : a < w.count
  pub complete : (w.actors a).status ≡ status.Waiting 0
  pub first : is_in a w.arrived ≡ false

-- an object without a running body accepts its pick, and bodies are numbered in the order in which they are accepted
pub record MayAccept (job : Job) (w : World) (object : ℤ) (a number : ℕ) : Type 0 where
  pub picked : pick_of job w object ≡ Some a
  pub next : number ≡ length w.accepted + 1

-- a machine ends at rest where nothing is left to do, and spent where its turns are above the budget
abbrev pub MayQuit : Job → World → MachineStatus → Type 0
MayQuit job w machine.Going = ⊥
MayQuit job w machine.Rest = (items job w ≡ []) × (w.turns ≤ job.budget)
MayQuit job w machine.Spent = job.budget < w.turns

-- ---- logs

abbrev pub Enabled : Job → World → Event → Type 0
Enabled job w (Fire a) = MayFire w a
Enabled job w (Send a turns callee member object arguments) = MaySend job w a turns callee member object arguments
Enabled job w (Create a turns class object) = MayCreate job w a turns class object
Enabled job w (Learn a turns call) = MayLearn job w a turns call
Enabled job w (Park a turns call) = MayPark job w a turns call
Enabled job w (Resume a) = MayResume w a
Enabled job w (Reply a turns value) = Stops job w a turns (Stands (Replies value))
Enabled job w (End a turns ending state) = MayEnd job w a turns ending state
Enabled job w (Beat a) = Stops job w a most_turns Beats
Enabled job w (Match place) = (arc : Arc) × (slice_get w.due place ≡ Some arc)
Enabled job w (Arrive a) = MayArrive w a
Enabled job w (Accept object a number) = MayAccept job w object a number
Enabled job w (Quit why) = MayQuit job w why

-- What may come next in a machine that hasn't ended.
abbrev pub Applies : Job → Log → Event → Type 0
Applies job before event = ((after job before).why ≡ machine.Going) × Enabled job (after job before) event

-- A list of events that a machine with this job may have, the newest first.
abbrev pub IsLog : Job → Log → Type 0
IsLog job [] = Unit {0}
IsLog job (event ∷ before) = Applies job before event × IsLog job before
