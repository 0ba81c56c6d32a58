-- What is known of the results of a frame's calls, which are numbered from 1.
use Rattle.std.specs.Prelude.{ℕ, zero, suc, List, slice_get, Option, Some, None}
use Rattle.mpl_value.specs.declared.body.Arg.{Arg}
use Rattle.mpl_value.specs.declared.body.Arg.TheVariants.{Unknown}
use Rattle.mpl_value.specs.declared.known.Known.{Known}
use Rattle.mpl_value.specs.CallAnswers.{arg_of_reply}

-- what is known at a place of a list of results, if it has that place
abbrev pub known_at : Option (Option Known) → Arg
known_at None = Unknown
known_at (Some known) = arg_of_reply known

abbrev pub knows_of : List (Option Known) → ℕ → Arg
knows_of results zero = Unknown
knows_of results (suc place) = known_at (slice_get results place)
