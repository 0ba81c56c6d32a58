-- What is left at the end of a frame.
use Rattle.std.specs.Prelude.{ℕ, ◌==◌, Bool, true, false, List, Option, Some, None, slice_get, slice_set}
use Rattle.std.specs.FinMap.{get}
use Rattle.mpl_value.specs.declared.body.BodyEnd.{BodyEnd}
use Rattle.mpl_value.specs.declared.body.BodyEnd.TheVariants as end
use Rattle.mpl_value.specs.declared.body.BodyResult.{BodyResult}
use Rattle.mpl_value.specs.declared.body.BodyResult.TheVariants as result
use Rattle.mpl_value.specs.declared.body.MemberId.{MemberId}
use Rattle.mpl_value.specs.declared.known.Known.{Known}
use Rattle.mpl_value.specs.declared.known.Trap.{Trap}
use Rattle.mdf_actor.specs.declared.status.ActorStatus.TheVariants.{Ended}
use Rattle.mdf_code.specs.declared.raw.RawImage.{RawImage}
use Rattle.mdf_code.specs.Yields.{missed_at, result_at_trap}
use Rattle.mdf_future.specs.declared.future.Fate.{Fate}
use Rattle.mdf_future.specs.declared.future.Fate.TheVariants as fate
use Rattle.mdf_future.specs.declared.future.Future.{Future}
use Rattle.mdf_machine.specs.declared.parts.Parts.{Parts}
use Rattle.mdf_machine.specs.declared.rows.Row.{Row}
use Rattle.mdf_machine.specs.Internal.Settling.{with_known}

abbrev pub known_in : BodyResult → Option Known
known_in result.Open = None
known_in (result.Known known) = Some known
known_in result.Unknown = None

abbrev pub result_by : RawImage → Option MemberId → Option Trap → ℕ → BodyResult
result_by image member None line = missed_at image line member
result_by image member (Some trap) line = result_at_trap member trap result.Open

abbrev pub unless_given : Fate → Option Known → Option Known
unless_given fate.Open known = known
unless_given (fate.Known other) known = None
unless_given (fate.Forwarded child) known = None

-- what the open result of an actor becomes
abbrev pub left_by : RawImage → Option Trap → ℕ → Option Row → Option Future → Option Known
left_by image trap line None future = None
left_by image trap line (Some row) None = None
left_by image trap line (Some row) (Some future) = unless_given future.fate (known_in (result_by image row.member trap line))

abbrev pub left_at_end : RawImage → Parts → ℕ → Option Trap → ℕ → Option Known
left_at_end image p actor trap line = left_by image trap line (slice_get p.rows actor) (get p.results.results actor)

abbrev pub end_of : Option Trap → BodyEnd
end_of None = end.Done
end_of (Some trap) = end.Trap trap

-- the lines and the end of `main`
abbrev pub with_main_if : Bool → List ℕ → Option Trap → Parts → Parts
with_main_if true lines trap p = record p { lines = lines; main_end = end_of trap }
with_main_if false lines trap p = p

abbrev pub with_ended : Parts → ℕ → ℕ → Parts
with_ended p actor turns = record p { statuses = slice_set p.statuses actor Ended; going = slice_set p.going actor false; turns = turns }

abbrev pub finished : Parts → ℕ → ℕ → Option Trap → List ℕ → Parts
finished p actor turns trap lines = with_main_if (actor == 0) lines trap (with_ended p actor turns)

abbrev pub with_known_if : Parts → ℕ → Option Known → Parts
with_known_if p actor None = p
with_known_if p actor (Some known) = with_known p actor known
