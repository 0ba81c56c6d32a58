-- The answer to a frame's last stop.
use Rattle.std.specs.Prelude.{◌≡◌}
use Rattle.mdf_code.specs.declared.raw.RawImage.{RawImage}
use Rattle.mdf_vm.specs.Standing.{alone_of, goes_on}
use Rattle.mdf_vm.specs.declared.frame.Frame as frames
use Rattle.mdf_vm.specs.declared.last.Last.TheVariants as last

pub record IsAnswer (image : RawImage) (before after : frames.Frame) : Type 0 where
  pub alone : alone_of after ≡ goes_on image before
  pub object : after.setting.object ≡ before.setting.object
  pub turns : after.turns ≡ before.turns
  pub going : after.last ≡ last.Going
