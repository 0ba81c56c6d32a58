use Rattle.mdf_drive.proofs.Answering.{answers}
use Rattle.mdf_drive.proofs.laws.results_are_answers.Goals as goal

pub returns : goal.returns
returns c = answers
