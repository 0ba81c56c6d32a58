-- What calls of a machine answer and leave.
use Rattle.std.specs.Prelude.{ℕ, ◌≡◌, ◌≢◌, Result, Ok, Err, Some, None}
use Rattle.mpl_value.specs.declared.known.Known.{Known}
use Rattle.mdf_actor.specs.declared.status.ActorStatus.TheVariants as status
use Rattle.mdf_code.specs.Told.{Stood}
use Rattle.mdf_core.specs.Events.{Fire, Learn, Park, Resume}
use Rattle.mdf_core.specs.Worlds.{World, known_at}
use Rattle.mdf_vm.specs.declared.frame.Frame.{Frame}
use Rattle.mdf_machine.specs.declared.refusals.NotReady.{NotReady}
use Rattle.mdf_machine.specs.declared.refusals.Open.{Open}
use Rattle.mdf_machine.specs.Courses.{Course, then, world_of}
use Rattle.mdf_machine.specs.Frames.{Begins, StandsAt}

-- a result is answered where it is known
abbrev pub Learns : ℕ → ℕ → ℕ → Course → Course → Result Known Open → Type 0
Learns a turns call before after (Ok known) = (known_at (world_of before) (((world_of before).actors a).child call) ≡ Some known) × (after ≡ then (Learn a turns call) before)
Learns a turns call before after (Err refused) = (known_at (world_of before) (((world_of before).actors a).child call) ≡ None) × (after ≡ before)

-- a frame is handed back where its result is known
abbrev pub Parks : ℕ → ℕ → ℕ → Frame → Course → Course → Result (Unit {0}) Frame → Type 0
Parks a turns call frame before after (Ok done) = (known_at (world_of before) (((world_of before).actors a).child call) ≡ None) × (after ≡ then (Park a turns call) before)
Parks a turns call frame before after (Err back) = (back ≡ frame) × (known_at (world_of before) (((world_of before).actors a).child call) ≢ None) × (after ≡ before)

-- a frame begins where its actor is ready
abbrev pub Fires : ℕ → Course → Course → Result Frame NotReady → Type 0
Fires a before after (Ok frame) = (((world_of before).actors a).status ≡ status.Ready) × Begins before.job.image ((world_of before).actors a).start frame × (after ≡ then (Fire a) before)
Fires a before after (Err refused) = (((world_of before).actors a).status ≡ refused.status) × (refused.status ≢ status.Ready) × (after ≡ before)

-- an actor is parked on a result that is known
pub record MayGoOn (w : World) (a : ℕ) : Type 0 where
  pub child : ℕ
  pub parked : (w.actors a).status ≡ status.Parked child
  pub known : Known
  pub is : known_at w (Some child) ≡ Some known

-- where the frame of an actor stands
pub record StandsThere (course : Course) (a : ℕ) (frame : Frame) : Type 0 where
  pub stood : Stood
  pub stands : StandsAt course.job.image ((world_of course).actors a).start ((world_of course).actors a).told stood frame

-- a frame that was put away goes on where its result is known
abbrev pub Resumes : ℕ → Course → Course → Result Frame NotReady → Type 0
Resumes a before after (Ok frame) = MayGoOn (world_of before) a × StandsThere before a frame × (after ≡ then (Resume a) before)
Resumes a before after (Err refused) = (((world_of before).actors a).status ≡ refused.status) × (MayGoOn (world_of before) a → ⊥) × (after ≡ before)
