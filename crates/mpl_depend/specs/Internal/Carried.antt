-- What a path carries along. At place 0 stands whether a path comes here at all, and behind it, at one more than its number,
-- whether a variable is loose.
use Rattle.std.specs.Prelude.{ℕ, ◌≡◌, ◌+◌, Bool, true, false, [], ◌∷◌}
use Rattle.mpl_mean.specs.Pending.Looseness.{Event, Loosens, Settles, Copies, Forces, Path, where_one_is}

abbrev pub Places : Type 0
Places = ℕ → Bool

abbrev pub no_place : Places
no_place place = false

abbrev pub AreIn : Places → Places → Type 0
AreIn few many = (place : ℕ) → few place ≡ true → many place ≡ true

-- a variable is loosened wherever a path comes
abbrev pub event_on : Event → Places → Places
event_on (Loosens variable) places = where_one_is (variable + 1) (places 0) places
event_on (Settles variable) places = where_one_is (variable + 1) false places
event_on (Copies into from) places = where_one_is (into + 1) (places (from + 1)) places
event_on (Forces node variable) places = where_one_is (variable + 1) false places

abbrev pub path_on : Path → Places → Places
path_on [] places = places
path_on (event ∷ path) places = path_on path (event_on event places)
