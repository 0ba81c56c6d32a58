use Rattle.mdf_core.proofs.Wired.{arcs_lead}
use Rattle.mdf_core.proofs.laws.arcs_lead_from_calls.Goals as goal

pub returns : goal.returns
returns c = arcs_lead
