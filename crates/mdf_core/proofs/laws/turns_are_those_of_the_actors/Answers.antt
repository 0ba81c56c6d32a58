use Rattle.mdf_core.proofs.Running.{turns_sum}
use Rattle.mdf_core.proofs.laws.turns_are_those_of_the_actors.Goals as goal

pub returns : goal.returns
returns c = turns_sum
