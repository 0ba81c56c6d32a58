use Rattle.mdf_core.proofs.FilledPorts.{ports_fit}
use Rattle.mdf_core.proofs.laws.ports_have_their_arguments.Goals as goal

pub returns : goal.returns
returns c = ports_fit
