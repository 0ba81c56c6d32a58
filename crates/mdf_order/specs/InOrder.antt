-- The serials that are in, in order.
use Rattle.std.specs.Prelude.{ℕ, Bool, List, length}
use Rattle.std.specs.List.{items_where_true, range_with_len}

-- the serials at which a list says true, rising
abbrev pub serials_in : List Bool → List ℕ
serials_in marks = items_where_true marks (range_with_len 0 (length marks))
