use Rattle.mpl_gen_code.proofs.TypedPrograms.{typed_fits}
use Rattle.mpl_gen_code.proofs.laws.typed_programs_fit.Goals as goal

pub returns : goal.returns
returns c = typed_fits
