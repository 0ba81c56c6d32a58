-- What machines and those that have ended are.
use Rattle.std.specs.Prelude.{◌≡◌, ◌≢◌, ◌≤◌, true}
use Rattle.mdf_code.specs.Images.{is_image}
use Rattle.mdf_core.specs.declared.status.MachineStatus.TheVariants.{Going}
use Rattle.mdf_core.specs.Enabled.{IsLog}
use Rattle.mdf_drive.specs.Plain.{IsPlain}
use Rattle.mdf_machine.specs.Courses.{Course, most_budget, world_of}

-- The events are a log of the job, whose program is an image without persistent objects, and whose budget is within the limit.
pub record IsRight (course : Course) : Type 0 where
  pub is_log : IsLog course.job course.log
  pub image : is_image course.job.image ≡ true
  pub plain : IsPlain course.job
  pub budget : course.job.budget ≤ most_budget

-- It is over.
pub record IsOver (course : Course) : Type 0 where
  pub right : IsRight course
  pub ended : (world_of course).why ≢ Going
