-- How often a code needs a variable, and how many uses on the ways through a body are marked.
use Rattle.std.specs.Prelude.{ℕ, ◌+◌, Bool, true, false, List, [], ◌∷◌, Option, Some, None}
use Rattle.mdf_code.specs.declared.instr.Instr.{Instr}
use Rattle.mdf_code.specs.declared.instr.Instr.TheVariants as instr
use Rattle.mdf_code.specs.declared.raw.RawCode.{RawCode}
use Rattle.mpl_mean.specs.Pending.Looseness.{Event, Loosens, Settles, Copies, Forces}
use Rattle.mpl_mean.specs.Pending.Paths.{Ways, NoEvent, Only, Then, Either, Loop, Stop}

abbrev pub need_in : Instr → ℕ
need_in (instr.Need variable) = 1
need_in other = 0

abbrev pub needs_in : List Instr → ℕ
needs_in [] = 0
needs_in (instruction ∷ code) = need_in instruction + needs_in code

abbrev pub needs_of_guard : Option (List Instr) → ℕ
needs_of_guard None = 0
needs_of_guard (Some code) = needs_in code

abbrev pub one_if : Bool → ℕ
one_if true = 1
one_if false = 0

abbrev pub marked_event : (ℕ → Bool) → Event → ℕ
marked_event marks (Loosens variable) = 0
marked_event marks (Settles variable) = 0
marked_event marks (Copies into from) = 0
marked_event marks (Forces node variable) = one_if (marks node)

-- each use counts once, however often it is come to
abbrev pub marked_uses : (ℕ → Bool) → Ways → ℕ
marked_uses marks NoEvent = 0
marked_uses marks (Only event) = marked_event marks event
marked_uses marks (Then first second) = marked_uses marks first + marked_uses marks second
marked_uses marks (Either one other) = marked_uses marks one + marked_uses marks other
marked_uses marks (Loop test body) = marked_uses marks test + marked_uses marks body
marked_uses marks Stop = 0
