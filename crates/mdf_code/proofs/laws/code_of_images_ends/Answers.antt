use Rattle.mdf_code.proofs.Ending.{comes_to_an_end}
use Rattle.mdf_code.proofs.laws.code_of_images_ends.Goals as goal

pub returns : goal.returns
returns c = comes_to_an_end
