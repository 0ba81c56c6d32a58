-- How a machine ends, and what `main` has done then.
use Rattle.std.specs.Prelude.{ℕ, ◌≡◌, ◌≢◌, ◌≤◌, Bool, true, false, List, []}
use Rattle.mpl_value.specs.declared.body.BodyEnd.{BodyEnd}
use Rattle.mdf_core.specs.declared.status.MachineStatus.{MachineStatus}
use Rattle.mdf_core.specs.declared.status.MachineStatus.TheVariants as machine
use Rattle.mdf_core.specs.DriveList.{items}
use Rattle.mdf_core.specs.Enabled.{MayQuit}
use Rattle.mdf_core.specs.Events.{Quit}
use Rattle.mdf_core.specs.Rest.{MainDid}
use Rattle.mdf_machine.specs.Courses.{Course, then, world_of}

-- A machine that goes on ends where it may. Where it goes on still, something is left to do and its turns are within the
-- budget. One that has ended stays as it is.
abbrev pub QuitsAt : MachineStatus → Course → Course → Bool → Type 0
QuitsAt machine.Going before after true = (why : MachineStatus) × MayQuit before.job (world_of before) why × (after ≡ then (Quit why) before)
QuitsAt machine.Going before after false = (items before.job (world_of before) ≢ []) × ((world_of before).turns ≤ before.job.budget) × (after ≡ before)
QuitsAt machine.Rest before after ended = (ended ≡ true) × (after ≡ before)
QuitsAt machine.Spent before after ended = (ended ≡ true) × (after ≡ before)

abbrev pub Quits : Course → Course → Bool → Type 0
Quits before after ended = QuitsAt (world_of before).why before after ended

-- ---- main

-- `main` printed these lines
abbrev pub Printed : Course → List ℕ → Type 0
Printed course lines = (end : BodyEnd) × MainDid course.job (world_of course) end lines

-- `main` came to this end
abbrev pub CameTo : Course → BodyEnd → Type 0
CameTo course end = (lines : List ℕ) × MainDid course.job (world_of course) end lines
