use Rattle.mpl_gen_laws.proofs.ProgramImages.{program_is_image}
use Rattle.mpl_gen_laws.proofs.SpelledLines.{spelled_prints}
use Rattle.mpl_gen_laws.proofs.laws.images_of_programs_are_images.Goals as goal

pub returns-clause-typed : goal.returns-clause-typed
returns-clause-typed c = program_is_image

pub returns-clause-accepted : goal.returns-clause-accepted
returns-clause-accepted c p marks accepted = program_is_image p marks accepted.typed (spelled_prints p accepted.tokens accepted.spelled)
