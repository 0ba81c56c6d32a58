-- What answers a call: its arguments decide first, and then a reply or a result.
use Rattle.std.specs.Prelude.{Bool, true, false, ◌||◌, List, [], ◌∷◌, Option, Some, None, ℤ}
use Rattle.mpl_value.specs.declared.body.Arg.{Arg}
use Rattle.mpl_value.specs.declared.body.Arg.TheVariants.{Know, Trapped, Unknown}
use Rattle.mpl_value.specs.declared.body.BodyResult.{BodyResult}
use Rattle.mpl_value.specs.declared.body.BodyResult.TheVariants as result
use Rattle.mpl_value.specs.declared.known.Known.{Known}
use Rattle.mpl_value.specs.declared.known.Known.TheVariants as known
use Rattle.mpl_value.specs.declared.known.Trap.{Trap}

-- ---- arguments

abbrev pub is_unknown : Arg → Bool
is_unknown (Know words) = false
is_unknown (Trapped t) = false
is_unknown Unknown = true

abbrev pub any_unknown : List Arg → Bool
any_unknown [] = false
any_unknown (argument ∷ others) = is_unknown argument || any_unknown others

-- the trap of the leftmost argument that has one
abbrev pub leftmost_trap : List Arg → Option Trap
leftmost_trap [] = None
leftmost_trap (Know words ∷ others) = leftmost_trap others
leftmost_trap (Trapped t ∷ others) = Some t
leftmost_trap (Unknown ∷ others) = leftmost_trap others

abbrev pub known_words : List Arg → List (List ℤ)
known_words [] = []
known_words (Know words ∷ others) = words ∷ known_words others
known_words (Trapped t ∷ others) = known_words others
known_words (Unknown ∷ others) = known_words others

-- ---- replies and results

-- the reply to a call on a persistent object, if there is one
abbrev pub arg_of_reply : Option Known → Arg
arg_of_reply None = Unknown
arg_of_reply (Some (known.Value words)) = Know words
arg_of_reply (Some (known.Trapped t)) = Trapped t

-- the result of a body that was called in place
abbrev pub arg_of_result : BodyResult → Arg
arg_of_result result.Open = Unknown
arg_of_result (result.Known (known.Value words)) = Know words
arg_of_result (result.Known (known.Trapped t)) = Trapped t
arg_of_result result.Unknown = Unknown
