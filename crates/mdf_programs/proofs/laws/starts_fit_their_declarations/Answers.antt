use Rattle.mdf_programs.proofs.ProgramStarts.{program_starts_fit}
use Rattle.mdf_programs.proofs.laws.starts_fit_their_declarations.Goals as goal

pub returns : goal.returns
returns c = program_starts_fit
