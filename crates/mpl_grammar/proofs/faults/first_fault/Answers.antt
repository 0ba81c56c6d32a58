use Rattle.std.proofs.lemmas.Result.{IfOk-weaker}
use Rattle.mpl_grammar.proofs.FaultsFit.{answer-fits}
use Rattle.mpl_grammar.proofs.faults.first_fault.Goals as goal

pub returns-clause-none : goal.returns-clause-none
returns-clause-none c = IfOk-weaker c.fault_of.result _ _ (λ found is none. answer-fits c.args.tokens.now.end c.as_slice.ensures is none) c.fault_of.ensures

pub returns-clause-syntax : goal.returns-clause-syntax
returns-clause-syntax c = IfOk-weaker c.fault_of.result _ _ (λ found is at there. answer-fits c.args.tokens.now.end c.as_slice.ensures is there) c.fault_of.ensures

pub returns-clause-too_deep : goal.returns-clause-too_deep
returns-clause-too_deep c = IfOk-weaker c.fault_of.result _ _ (λ found is at there. answer-fits c.args.tokens.now.end c.as_slice.ensures is there) c.fault_of.ensures
