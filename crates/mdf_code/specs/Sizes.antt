-- How many words what a code makes has, and what is asked of its start and of the replies for that.
use Rattle.std.specs.Prelude.{◌≡◌, ℕ, List, take, length, slice_get, sum, Option, Some, None}
use Rattle.std.specs.FinMap.{FinMap}
use Rattle.std.specs.List.{AllByRecursion, AllZip}
use Rattle.std.specs.Ordering.{nat_cmp}
use Rattle.mpl_value.specs.declared.body.Arg.{Arg}
use Rattle.mpl_value.specs.declared.body.Arg.TheVariants.{Know, Trapped, Unknown}
use Rattle.mpl_value.specs.declared.body.BodyResult.{BodyResult}
use Rattle.mpl_value.specs.declared.body.BodyResult.TheVariants as result
use Rattle.mpl_value.specs.declared.body.BodyStart.{BodyStart}
use Rattle.mpl_value.specs.declared.body.CallMade.{CallMade}
use Rattle.mpl_value.specs.declared.body.MemberId.{MemberId}
use Rattle.mpl_value.specs.declared.body.Yield.{Yield}
use Rattle.mpl_value.specs.declared.known.Known.{Known}
use Rattle.mpl_value.specs.declared.known.Known.TheVariants as known
use Rattle.mdf_code.specs.declared.raw.RawImage.{RawImage}
use Rattle.mdf_code.specs.declared.raw.RawMember.{RawMember}
use Rattle.mdf_code.specs.Parts.{sizes_at, sizes_of_formals}
use Rattle.mdf_code.specs.Yields.{code_of_member, formals_at, replies_of, words_of_result}

-- what is known has so many words
abbrev pub ArgFits : ℕ → Arg → Type 0
ArgFits words (Know value) = length value ≡ words
ArgFits words (Trapped t) = Unit {0}
ArgFits words Unknown = Unit {0}

-- ---- starts and replies

-- the words of each formal of a body; `main` has none
abbrev pub sizes_of_start : RawImage → Option MemberId → List ℕ
sizes_of_start image member = take (formals_at image member) (sizes_at image (code_of_member member))

-- The arguments of a start have the words of its formals.
abbrev pub StartFits : RawImage → BodyStart → Type 0
StartFits image start = length start.args ≡ sum (sizes_of_start image start.member)

abbrev pub CallReplyFits : RawImage → (ℕ → Arg) → CallMade → Type 0
CallReplyFits image replies call = ArgFits (words_of_result image call.member.0) (replies call.call)

-- The value that answers a call has as many words as its member's result.
abbrev pub RepliesFit : RawImage → FinMap nat_cmp Known → List CallMade → Type 0
RepliesFit image replies = AllByRecursion (CallReplyFits image (replies_of replies))

-- ---- yields

-- as many arguments as formals, each with its formal's words where it is known
abbrev pub ArgumentsFit : List Arg → Option RawMember → Type 0
ArgumentsFit arguments None = ⊥
ArgumentsFit arguments (Some m) = AllZip ArgFits (sizes_of_formals m) arguments

-- a call of a member of the image, with the arguments that its formals ask for
abbrev pub CallFits : RawImage → CallMade → Type 0
CallFits image call = ArgumentsFit call.args (slice_get image.members call.member.0)

-- a result that is a known value has so many words; where there is no number it is no known value
abbrev pub ResultFits : Option ℕ → BodyResult → Type 0
ResultFits (Some words) (result.Known (known.Value value)) = length value ≡ words
ResultFits None (result.Known (known.Value value)) = ⊥
ResultFits words other = Unit {0}

-- the words of a body's result; `main` has none
abbrev pub words_given : RawImage → Option MemberId → Option ℕ
words_given image None = None
words_given image (Some member) = Some (words_of_result image member.0)

-- Arguments, result and state have the sizes that the image gives them.
pub record Sized (image : RawImage) (start : BodyStart) (yield : Yield) : Type 0 where
  pub calls : AllByRecursion (CallFits image) yield.calls
  pub result : ResultFits (words_given image start.member) yield.result
  pub state : length yield.state ≡ length start.state
