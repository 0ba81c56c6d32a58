-- A frame that is held, and the frame of an actor by the machine's log.
use Rattle.std.specs.Prelude.{ℕ, ◌≡◌, List, Some}
use Rattle.mpl_value.specs.declared.body.BodyStart.{BodyStart}
use Rattle.mpl_value.specs.declared.known.Known.{Known}
use Rattle.mpl_value.specs.CallAnswers.{arg_of_reply}
use Rattle.mdf_code.specs.declared.raw.RawImage.{RawImage}
use Rattle.mdf_code.specs.Told.{Alone, Halt, Stood, Told, behind, first, learns, runs_on}
use Rattle.mdf_core.specs.Enabled.{StopsAt}
use Rattle.mdf_core.specs.Worlds.{Job, World}
use Rattle.mdf_vm.specs.Standing.{IsAnswered, alone_of, goes_on, last_at}
use Rattle.mdf_vm.specs.declared.frame.Frame as frames
use Rattle.mdf_vm.specs.declared.last.Last.TheVariants as last

-- at the start of a body
pub record Begins (image : RawImage) (start : BodyStart) (f : frames.Frame) : Type 0 where
  pub alone : alone_of f ≡ first image start
  pub object : f.setting.object ≡ start.object
  pub turns : f.turns ≡ 0
  pub last : f.last ≡ last.Going

-- It goes on from behind what it was told.
pub record GoesOn (image : RawImage) (start : BodyStart) (told : List Told) (f : frames.Frame) : Type 0 where
  pub steps : ℕ
  pub behind_is : behind steps image start told ≡ Some (goes_on image f)
  pub answered : IsAnswered f.last
  pub object : f.setting.object ≡ start.object

-- It has learnt the known result of a call of its, by its number.
pub record HasLearnt (number : ℕ) (known : Known) (f g : frames.Frame) : Type 0 where
  pub alone : alone_of g ≡ record (alone_of f) { knows = learns number (arg_of_reply (Some known)) (alone_of f).knows }
  pub last : g.last ≡ last.Going
  pub object : g.setting.object ≡ f.setting.object

-- It stands where the body that was told so halts next.
pub record StandsAt (image : RawImage) (start : BodyStart) (told : List Told) (stood : Stood) (f : frames.Frame) : Type 0 where
  pub steps : ℕ
  pub from : Alone
  pub behind_is : behind steps image start told ≡ Some from
  pub halts : runs_on steps image start from ≡ Some stood
  pub frame : (alone_of f).frame ≡ stood.frame
  pub calls : (alone_of f).calls ≡ from.calls
  pub knows : (alone_of f).knows ≡ from.knows
  pub last : f.last ≡ last_at stood.halt
  pub object : f.setting.object ≡ start.object

-- It is the frame of an actor that runs, and stops so, so many turns after the actor's last event.
pub record IsFrameAt (job : Job) (w : World) (a turns : ℕ) (halt : Halt) (f : frames.Frame) : Type 0 where
  pub stood : Stood
  pub stops : StopsAt job w a turns stood
  pub is : stood.halt ≡ halt
  pub stands : StandsAt job.image (w.actors a).start (w.actors a).told stood f
