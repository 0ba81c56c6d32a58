use Rattle.mdf_code.proofs.RepliedYields.{only_adds, unstrayed_yields}
use Rattle.mdf_code.proofs.laws.more_replies_only_add_to_code.Goals as goal

pub returns-clause-grows : goal.returns-clause-grows
returns-clause-grows c = only_adds

pub returns-clause-unstrayed : goal.returns-clause-unstrayed
returns-clause-unstrayed c = unstrayed_yields
