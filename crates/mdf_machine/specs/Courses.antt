-- What a machine is seen as: its job, and the events that happened in it, the newest first.
use Rattle.std.specs.Prelude.{ℕ, ◌+◌, [], ◌∷◌}
use Rattle.mdf_core.specs.Events.{Event, Fire}
use Rattle.mdf_core.specs.Steps.{Log, after}
use Rattle.mdf_core.specs.Worlds.{Job, World}

pub record Course : Type 0 where
  pub job : Job
  pub log : Log

-- the most turns that a budget may allow
abbrev pub most_budget : ℕ
most_budget = 4000000

-- what it holds
abbrev pub world_of : Course → World
world_of course = after course.job course.log

-- one more event
abbrev pub then : Event → Course → Course
then event course = record course { log = event ∷ course.log }

-- how many frames have begun
abbrev pub begins : Event → ℕ
begins (Fire a) = 1
begins other = 0

abbrev pub fired_in : Log → ℕ
fired_in [] = 0
fired_in (event ∷ before) = fired_in before + begins event
