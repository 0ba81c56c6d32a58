-- Which variables are loose along a path: those that may hold a pending or a trapped result.
use Rattle.std.specs.Prelude.{ℕ, Bool, true, false, List, [], ◌∷◌, if◌then◌else◌, nat_eq}

-- What a path does to variables, each by the number of those in scope that are older than it.
pub data Event : Type 0 where
  -- the result of a Mentat call goes into a whole variable
  Loosens : (variable : ℕ) → Event
  -- something that is known goes into a whole variable
  Settles : (variable : ℕ) → Event
  -- a whole variable holds what another one holds
  Copies : (into from : ℕ) → Event
  -- a use, by the number of its node, forces a variable
  Forces : (node variable : ℕ) → Event

abbrev pub Path : Type 0
Path = List Event

-- the variables that are loose
abbrev pub Loose : Type 0
Loose = ℕ → Bool

abbrev pub none_loose : Loose
none_loose variable = false

abbrev pub where_one_is : ℕ → Bool → Loose → Loose
where_one_is variable is_loose loose other = if nat_eq variable other then is_loose else loose other

abbrev pub behind_event : Event → Loose → Loose
behind_event (Loosens variable) loose = where_one_is variable true loose
behind_event (Settles variable) loose = where_one_is variable false loose
behind_event (Copies into from) loose = where_one_is into (loose from) loose
behind_event (Forces node variable) loose = where_one_is variable false loose

abbrev pub behind_path : Path → Loose → Loose
behind_path [] loose = loose
behind_path (event ∷ path) loose = behind_path path (behind_event event loose)
