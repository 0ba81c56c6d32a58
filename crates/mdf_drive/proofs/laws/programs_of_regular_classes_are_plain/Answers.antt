use Rattle.mdf_drive.proofs.PlainImages.{regular_images_are_plain}
use Rattle.mdf_drive.proofs.laws.programs_of_regular_classes_are_plain.Goals as goal

pub returns : goal.returns
returns c = regular_images_are_plain
