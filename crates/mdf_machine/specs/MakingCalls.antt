-- A call that an actor's frame makes.
use Rattle.std.specs.Prelude.{ℕ, ◌≡◌, List, map}
use Rattle.mdf_code.specs.Alone.{Held}
use Rattle.mdf_code.specs.Frames.{Calls}
use Rattle.mdf_code.specs.Told.{Stands}
use Rattle.mdf_core.specs.Enabled.{Stops}
use Rattle.mdf_core.specs.Events.{Send}
use Rattle.mdf_core.specs.Worlds.{Job, World}
use Rattle.mdf_vm.specs.FlowArgs.{flow_arg}
use Rattle.mdf_vm.specs.declared.stop.Sent.{Sent}
use Rattle.mdf_machine.specs.Courses.{Course, then, world_of}

-- The frame of a running actor stops at this call, so many turns after the actor's last event.
pub record StopsAtCall (job : Job) (w : World) (a turns : ℕ) (sent : Sent) : Type 0 where
  pub arguments : List Held
  pub are : sent.args ≡ map flow_arg arguments
  pub stops : Stops job w a turns (Stands (Calls sent.member.0 sent.object arguments))

-- The call is made, and its actor is the next one.
pub record Sends (a turns : ℕ) (sent : Sent) (before after : Course) (callee : ℕ) : Type 0 where
  pub arguments : List Held
  pub are : sent.args ≡ map flow_arg arguments
  pub next : callee ≡ (world_of before).count
  pub sends : after ≡ then (Send a turns callee sent.member.0 sent.object arguments) before
