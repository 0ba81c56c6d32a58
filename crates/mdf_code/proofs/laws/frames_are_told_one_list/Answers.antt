use Rattle.mdf_code.proofs.OneTold.{on_the_way, one_list}
use Rattle.mdf_code.proofs.laws.frames_are_told_one_list.Goals as goal

pub returns-clause-one : goal.returns-clause-one
returns-clause-one c = one_list

pub returns-clause-on_the_way : goal.returns-clause-on_the_way
returns-clause-on_the_way c = on_the_way
