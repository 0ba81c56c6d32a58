use Rattle.mpl_gen_laws.proofs.SafeStarts.{covered_frames_stray_nowhere}
use Rattle.mpl_gen_laws.proofs.laws.frames_of_covered_programs_stray_nowhere.Goals as goal

pub returns : goal.returns
returns c = covered_frames_stray_nowhere
