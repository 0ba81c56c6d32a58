-- Programs without persistent objects.
use Rattle.std.specs.Prelude.{ℕ, ◌≡◌, ◌≢◌, ◌<◌, true, List, ℤ, Some, slice_get}
use Rattle.std.specs.FinMap.{empty}
use Rattle.mpl_mean.specs.Meaning.DirectRun.{main_start}
use Rattle.mdf_code.specs.declared.raw.RawClass.{RawClass}
use Rattle.mdf_code.specs.declared.raw.RawImage.{RawImage}
use Rattle.mdf_code.specs.Alone.{Held}
use Rattle.mdf_code.specs.Frames.{Calls, Creates}
use Rattle.mdf_code.specs.Right.{StraysAsInPlace}
use Rattle.mdf_code.specs.Told.{HaltsNext, Stands, Stood, Told}
use Rattle.mdf_code.specs.Yields.{member_is_regular}
use Rattle.mdf_core.specs.Stages.{has_begun}
use Rattle.mdf_core.specs.Worlds.{Job, World}

-- `main` calls members of regular classes alone, and creates no objects. Bodies of regular members can do nothing else.
pub record IsPlain (job : Job) : Type 0 where
  pub calls : (told : List Told) (stood : Stood) (member : ℕ) (object : ℤ) (arguments : List Held) → HaltsNext job.image (main_start job.input) told stood →
      stood.halt ≡ Stands (Calls member object arguments) → member_is_regular job.image member ≡ true
  pub creates : (told : List Told) (stood : Stood) (class : ℕ) → HaltsNext job.image (main_start job.input) told stood → stood.halt ≢ Stands (Creates class)

-- each class is regular
abbrev pub EachRegular : RawImage → Type 0
EachRegular image = (n : ℕ) (class : RawClass) → slice_get image.classes n ≡ Some class → class.regular ≡ true

-- where the frame of an actor that has begun strays, its body strays in place
abbrev pub StraysAsBodies : Job → World → Type 0
StraysAsBodies job w = (c : ℕ) → c < w.count → has_begun (w.actors c).status ≡ true → StraysAsInPlace job.image (w.actors c).start empty
