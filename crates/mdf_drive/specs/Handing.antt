-- What a frame hands out where it halts.
use Rattle.std.specs.Prelude.{ℕ, ◌≡◌, ◌<◌, ◌≤◌, List, length, Some}
use Rattle.std.specs.List.{AllByRecursion}
use Rattle.mdf_code.specs.Alone.{Held, Words, Pending}
use Rattle.mdf_code.specs.Frames.{Calls, Creates, Ends, Needs, Replies, Strays, Traps}
use Rattle.mdf_code.specs.Images.{most_formals, most_words}
use Rattle.mdf_code.specs.Told.{Beats, Halt, Stands}
use Rattle.mdf_core.specs.Worlds.{World}

-- the result of a call that the actor made, whose actor is newer
pub record IsOfCall (w : World) (a call : ℕ) : Type 0 where
  pub child : ℕ
  pub is : (w.actors a).child call ≡ Some child
  pub newer : a < child
  pub there : child < w.count

-- few words, or the result of a call
abbrev pub IsHanded : World → ℕ → Held → Type 0
IsHanded w a (Words words) = length words ≤ most_words
IsHanded w a (Pending call) = IsOfCall w a call

-- a result that isn't known
abbrev pub IsMissing : World → ℕ → Held → Type 0
IsMissing w a (Words words) = ⊥
IsMissing w a (Pending call) = IsOfCall w a call

-- a call has few arguments, each of which is handed out so, and so is what is given
abbrev pub HandsOut : World → ℕ → Halt → Type 0
HandsOut w a (Stands (Calls member object arguments)) = (length arguments ≤ most_formals) × AllByRecursion (IsHanded w a) arguments
HandsOut w a (Stands (Needs value)) = IsMissing w a value
HandsOut w a (Stands (Replies value)) = IsHanded w a value
HandsOut w a (Stands (Creates class)) = Unit {0}
HandsOut w a (Stands (Ends line)) = Unit {0}
HandsOut w a (Stands Strays) = Unit {0}
HandsOut w a (Stands (Traps trap)) = Unit {0}
HandsOut w a Beats = Unit {0}
