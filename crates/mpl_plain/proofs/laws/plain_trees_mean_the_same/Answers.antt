use Rattle.mpl_plain.proofs.ExprsSame.{name_same, value_same}
use Rattle.mpl_plain.proofs.FlowsSame.{call_same, flow_same}
use Rattle.mpl_plain.proofs.StmtsSame.{run_same, statement_same}
use Rattle.mpl_plain.proofs.laws.plain_trees_mean_the_same.Goals as goal

pub returns-clause-values : goal.returns-clause-values
returns-clause-values c = value_same

pub returns-clause-names : goal.returns-clause-names
returns-clause-names c = name_same

pub returns-clause-flows : goal.returns-clause-flows
returns-clause-flows c = flow_same

pub returns-clause-calls : goal.returns-clause-calls
returns-clause-calls c = call_same

pub returns-clause-statements : goal.returns-clause-statements
returns-clause-statements c = statement_same

pub returns-clause-bodies : goal.returns-clause-bodies
returns-clause-bodies c = run_same
