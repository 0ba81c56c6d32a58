use Rattle.mpl_body_code.proofs.Levels.{main_comes, member_comes}
use Rattle.mpl_body_code.proofs.laws.code_does_what_bodies_mean.Goals as goal

pub returns-clause-main : goal.returns-clause-main
returns-clause-main c = main_comes

pub returns-clause-member : goal.returns-clause-member
returns-clause-member c = member_comes
