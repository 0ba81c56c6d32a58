use Rattle.mpl_gen_laws.proofs.TypedRuns.{main_yields}
use Rattle.mpl_gen_laws.proofs.laws.main_runs_as_its_code.Goals as goal

pub returns : goal.returns
returns c = main_yields
