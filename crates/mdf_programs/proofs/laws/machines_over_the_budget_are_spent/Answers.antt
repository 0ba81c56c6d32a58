use Rattle.mdf_programs.proofs.ProgramRuns.{over_budget_is_spent}
use Rattle.mdf_programs.proofs.laws.machines_over_the_budget_are_spent.Goals as goal

pub returns : goal.returns
returns c = over_budget_is_spent
