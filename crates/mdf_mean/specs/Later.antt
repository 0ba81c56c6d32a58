-- What stays of a journal when entries are added.
use Rattle.std.specs.Prelude.{◌≡◌, List, ◌++◌}
use Rattle.mpl_value.specs.declared.body.BodyStart.{BodyStart}

-- the newer starts are the older and those that were added before them
pub record AddsTo (starts newer : List BodyStart) : Type 0 where
  pub added : List BodyStart
  pub is : newer ≡ added ++ starts
