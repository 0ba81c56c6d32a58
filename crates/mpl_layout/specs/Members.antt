-- Words on what is found among the items of a class.
use Rattle.std.specs.Prelude.{ℕ, Bool, true, false, Option, Some, None}

-- it is found here, or by a higher number, or by this one
abbrev pub numbered_on : Option Bool → ℕ → Option ℕ → Option ℕ → Option ℕ
numbered_on None number higher same = same
numbered_on (Some true) number higher same = Some number
numbered_on (Some false) number higher same = higher
