use Rattle.mdf_programs.proofs.ProgramStarts.{regular_programs_are_plain}
use Rattle.mdf_programs.proofs.laws.regular_programs_are_plain.Goals as goal

pub returns : goal.returns
returns c = regular_programs_are_plain
