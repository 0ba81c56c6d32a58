-- The actors of an actor's calls, which are numbered from 1.
use Rattle.std.specs.Prelude.{ℕ, zero, suc, List, Option, None, slice_get}

abbrev pub child_in : List ℕ → ℕ → Option ℕ
child_in children zero = None
child_in children (suc place) = slice_get children place
