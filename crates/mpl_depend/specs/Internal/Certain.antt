-- When all is found: from what comes to the ways, what comes behind them, and the uses that are met.
use Rattle.std.specs.Prelude.{ℕ, ◌≡◌, ◌+◌, true, List}
use Rattle.std.specs.List.{Contains}
use Rattle.mpl_mean.specs.Pending.Looseness.{Event, Loosens, Settles, Copies, Forces}
use Rattle.mpl_mean.specs.Pending.Paths.{Ways, NoEvent, Only, Then, Either, Loop, Stop}
use Rattle.mpl_depend.specs.Internal.Carried.{AreIn, Places, event_on}

-- a use is marked where its variable is loose
abbrev pub IsMarked : Event → Places → List ℕ → Type 0
IsMarked (Loosens variable) places marks = Unit {0}
IsMarked (Settles variable) places marks = Unit {0}
IsMarked (Copies into from) places marks = Unit {0}
IsMarked (Forces node variable) places marks = places (variable + 1) ≡ true → Contains marks node

-- one thing and then another, with what comes between them
pub record InTurn (One Other : Places → Type 0) : Type 0 where
  pub mid : Places
  pub one : One mid
  pub other : Other mid

-- A loop: what comes to it is at its head, what is there is found behind the test and leaves it, and what the body makes of it is at
-- the head again.
pub record Around (Test Body : Places → Places → Type 0) (from to : Places) : Type 0 where
  pub head : Places
  pub mid : Places
  pub comes : AreIn from head
  pub through_test : Test head mid
  pub leaves : AreIn mid to
  pub through_body : Body mid head

abbrev pub Certain : List ℕ → Ways → Places → Places → Type 0
Certain marks NoEvent from to = AreIn from to
Certain marks (Only event) from to = AreIn (event_on event from) to × IsMarked event from marks
Certain marks (Then first second) from to = InTurn (λ mid. Certain marks first from mid) (λ mid. Certain marks second mid to)
Certain marks (Either one other) from to = Certain marks one from to × Certain marks other from to
Certain marks (Loop test body) from to = Around (λ a b. Certain marks test a b) (λ a b. Certain marks body a b) from to
Certain marks Stop from to = Unit {0}
