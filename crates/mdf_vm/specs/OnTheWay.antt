-- A frame that was told so is on its way to its next halt, maybe with turns behind it.
use Rattle.std.specs.Prelude.{ℕ, ◌≡◌, ◌+◌, ◌-◌, List, Some}
use Rattle.mpl_value.specs.declared.body.BodyStart.{BodyStart}
use Rattle.mdf_code.specs.declared.raw.RawImage.{RawImage}
use Rattle.mdf_code.specs.Told.{Alone, Halt, Stood, Told, around_start, behind, most_turns, runs_on}
use Rattle.mdf_vm.specs.Runs.{Went}
use Rattle.mdf_vm.specs.Standing.{IsAnswered, Ran, RanOut, alone_of, goes_on, last_at}
use Rattle.mdf_vm.specs.declared.frame.Frame as frames
use Rattle.mdf_vm.specs.declared.stop.Stop as stops

-- so many turns since what it was told last
pub record IsOnTheWay (image : RawImage) (start : BodyStart) (told : List Told) (spent : ℕ) (f : frames.Frame) : Type 0 where
  pub steps : ℕ
  pub from : Alone
  pub behind_is : behind steps image start told ≡ Some from
  pub went : Went from.knows (around_start image start) most_turns 0 from.frame spent (goes_on image f).frame
  pub calls : (goes_on image f).calls ≡ from.calls
  pub knows : (goes_on image f).knows ≡ from.knows
  pub answered : IsAnswered f.last
  pub object : f.setting.object ≡ start.object

-- it stands where the body that was told so halts next
pub record HasCome (image : RawImage) (start : BodyStart) (told : List Told) (stood : Stood) (f : frames.Frame) : Type 0 where
  pub steps : ℕ
  pub from : Alone
  pub behind_is : behind steps image start told ≡ Some from
  pub halts : runs_on steps image start from ≡ Some stood
  pub frame : (alone_of f).frame ≡ stood.frame
  pub calls : (alone_of f).calls ≡ from.calls
  pub knows : (alone_of f).knows ≡ from.knows
  pub last : f.last ≡ last_at stood.halt
  pub object : f.setting.object ≡ start.object

-- behind what it was told last
pub record HasBegun (image : RawImage) (start : BodyStart) (told : List Told) (f : frames.Frame) : Type 0 where
  pub steps : ℕ
  pub behind_is : behind steps image start told ≡ Some (goes_on image f)
  pub answered : IsAnswered f.last
  pub object : f.setting.object ≡ start.object

abbrev pub BeginsTheWay : Type 0
BeginsTheWay = (image : RawImage) (start : BodyStart) (told : List Told) (f : frames.Frame) → HasBegun image start told f → IsOnTheWay image start told 0 f

-- no memory was left
abbrev pub GoesFurther : Type 0
GoesFurther = (image : RawImage) (start : BodyStart) (told : List Told) (spent quantum : ℕ) (before after : frames.Frame) → IsOnTheWay image start told spent before → quantum + spent ≡ most_turns
    → (out : RanOut image quantum before after) → IsOnTheWay image start told (out.spent + spent) after

abbrev pub ComesToHalt : Type 0
ComesToHalt = (image : RawImage) (start : BodyStart) (told : List Told) (spent quantum : ℕ) (before after : frames.Frame) (stop : stops.Stop) → IsOnTheWay image start told spent before → quantum + spent ≡ most_turns
    → (ran : Ran image quantum before stop after) → HasCome image start told (record { halt = ran.halt; turns = ran.spent + spent; frame = (alone_of after).frame }) after
