-- The end of a frame.
use Rattle.std.specs.Prelude.{ℕ, ◌≡◌, List, Some, ℤ}
use Rattle.mdf_core.specs.Enabled.{MayEnd, StopsAt, ending_at}
use Rattle.mdf_core.specs.Events.{End, Ending}
use Rattle.mdf_core.specs.Worlds.{Job, World}
use Rattle.mdf_code.specs.Told.{Stood}
use Rattle.mdf_vm.specs.declared.frame.Frame.{Frame}
use Rattle.mdf_machine.specs.Courses.{Course, then, world_of}
use Rattle.mdf_machine.specs.Frames.{StandsAt}

-- It is the frame of an actor that runs, and comes to an end so many turns after the actor's last event.
pub record ComesToAnEnd (job : Job) (w : World) (a turns : ℕ) (f : Frame) : Type 0 where
  pub stood : Stood
  pub stops : StopsAt job w a turns stood
  pub ending : Ending
  pub ends : ending_at stood.halt ≡ Some ending
  pub stands : StandsAt job.image (w.actors a).start (w.actors a).told stood f

-- the end that may come next came
abbrev pub HasEnded : ℕ → ℕ → Course → Course → Type 0
HasEnded a turns before after = (ending : Ending) × (state : List ℤ) × MayEnd before.job (world_of before) a turns ending state × (after ≡ then (End a turns ending state) before)
