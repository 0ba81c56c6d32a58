-- The result that a frame gives.
use Rattle.std.specs.Prelude.{ℕ, ◌≡◌}
use Rattle.mdf_code.specs.Alone.{Held}
use Rattle.mdf_code.specs.Frames.{Replies}
use Rattle.mdf_code.specs.Told.{Stands}
use Rattle.mdf_core.specs.Enabled.{Stops}
use Rattle.mdf_core.specs.Events.{Reply}
use Rattle.mdf_core.specs.Worlds.{Job, World}
use Rattle.mdf_vm.specs.FlowArgs.{flow_arg}
use Rattle.mdf_vm.specs.declared.stop.FlowArg.{FlowArg}
use Rattle.mdf_machine.specs.Courses.{Course, then}

-- the frame of an actor stops with this as its result
pub record Gives (job : Job) (w : World) (a turns : ℕ) (give : FlowArg) : Type 0 where
  pub value : Held
  pub is : give ≡ flow_arg value
  pub stops : Stops job w a turns (Stands (Replies value))

-- it is given
abbrev pub HasGiven : ℕ → ℕ → FlowArg → Course → Course → Type 0
HasGiven a turns give before after = (value : Held) × (give ≡ flow_arg value) × (after ≡ then (Reply a turns value) before)
