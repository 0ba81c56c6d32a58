use Rattle.mdf_code.proofs.ToldFrames.{names_made}
use Rattle.mdf_code.proofs.laws.frames_name_results_of_their_calls.Goals as goal

pub returns : goal.returns
returns c = names_made
