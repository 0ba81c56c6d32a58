use Rattle.mdf_code.proofs.MoreKnown.{more_known}
use Rattle.mdf_code.proofs.laws.more_knowledge_changes_no_step.Goals as goal

pub returns : goal.returns
returns c = more_known
