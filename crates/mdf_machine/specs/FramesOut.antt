-- A frame that is out: it is held outside the machine, and its actor runs.
use Rattle.std.specs.Prelude.{ℕ, ◌≡◌, ◌<◌}
use Rattle.mdf_actor.specs.declared.status.ActorStatus.TheVariants as status
use Rattle.mdf_core.specs.Worlds.{Job, World}
use Rattle.mdf_vm.specs.declared.frame.Frame as frames
use Rattle.mdf_machine.specs.Frames.{GoesOn}

-- It goes on from what its actor was told last, and no turn of it is left to be counted.
pub record IsOut (job : Job) (w : World) (a : ℕ) (f : frames.Frame) : Type 0 where
  pub there : a < w.count
  pub running : (w.actors a).status ≡ status.Running
  pub goes : GoesOn job.image (w.actors a).start (w.actors a).told f
  pub counted : (w.actors a).counted ≡ 0
  pub turns : f.turns ≡ 0
