-- What is said of ways: which variables they speak of, and what paths along them reach.
use Rattle.std.specs.Prelude.{ℕ, suc, ◌≡◌, ◌<◌, ◌+◌, true}
use Rattle.mpl_mean.specs.Pending.Looseness.{Event, Loosens, Settles, Copies, Forces, Path}
use Rattle.mpl_mean.specs.Pending.Paths.{Ways, NoEvent, Only, Then, Either, Loop, Stop, Through, UpTo}
use Rattle.mpl_depend.specs.Internal.Carried.{Places, path_on}

-- the places of the variables of an event are below a number
abbrev pub EventWithin : ℕ → Event → Type 0
EventWithin count (Loosens variable) = variable + 1 < count
EventWithin count (Settles variable) = variable + 1 < count
EventWithin count (Copies into from) = (into + 1 < count) × (from + 1 < count)
EventWithin count (Forces node variable) = variable + 1 < count

abbrev pub Within : ℕ → Ways → Type 0
Within count NoEvent = Unit {0}
Within count (Only event) = EventWithin count event
Within count (Then first second) = Within count first × Within count second
Within count (Either one other) = Within count one × Within count other
Within count (Loop test body) = Within count test × Within count body
Within count Stop = Unit {0}

-- a number above those of all variables
pub record Spans (count : ℕ) (ways : Ways) : Type 0 where
  pub within : (more : ℕ) → count < more → Within more ways

-- something is carried to a place behind the ways
pub record Reaches (ways : Ways) (places : Places) (place : ℕ) : Type 0 where
  pub path : Path
  pub through : Through ways path
  pub is_there : path_on path places place ≡ true

-- a use is met while its variable is loose
pub record Meets (ways : Ways) (places : Places) (node : ℕ) : Type 0 where
  pub variable : ℕ
  pub path : Path
  pub leads : UpTo (Forces node variable) ways path
  pub is_loose : path_on path places (variable + 1) ≡ true

-- how many parts there are
abbrev pub size : Ways → ℕ
size NoEvent = 1
size (Only event) = 1
size (Then first second) = suc (size first + size second)
size (Either one other) = suc (size one + size other)
size (Loop test body) = suc (size test + size body)
size Stop = 1
