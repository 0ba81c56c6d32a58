-- A body's result: what it is given, and what becomes of it at the body's end.
use Rattle.mpl_value.specs.declared.body.Arg.{Arg}
use Rattle.mpl_value.specs.declared.body.Arg.TheVariants.{Know, Trapped, Unknown}
use Rattle.mpl_value.specs.declared.body.BodyEnd.{BodyEnd}
use Rattle.mpl_value.specs.declared.body.BodyEnd.TheVariants as end
use Rattle.mpl_value.specs.declared.body.BodyResult.{BodyResult}
use Rattle.mpl_value.specs.declared.body.BodyResult.TheVariants as result
use Rattle.mpl_value.specs.declared.known.Known.TheVariants as known

-- the result that a body gives with a value
abbrev pub result_of : Arg → BodyResult
result_of (Know words) = result.Known (known.Value words)
result_of (Trapped t) = result.Known (known.Trapped t)
result_of Unknown = result.Unknown

-- an open result becomes the trap that ends the body
abbrev pub result_at : BodyEnd → BodyResult → BodyResult
result_at (end.Trap t) result.Open = result.Known (known.Trapped t)
result_at end.Done result.Open = result.Open
result_at end.Waits result.Open = result.Open
result_at end.Spent result.Open = result.Open
result_at end (result.Known known) = result.Known known
result_at end result.Unknown = result.Unknown
