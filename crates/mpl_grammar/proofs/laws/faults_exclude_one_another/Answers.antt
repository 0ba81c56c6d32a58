use Rattle.mpl_grammar.proofs.OneFault.{light_not_deep, not_both, one_depth, one_syntax_fault}
use Rattle.mpl_grammar.proofs.laws.faults_exclude_one_another.Goals as goal

pub returns-clause-syntax : goal.returns-clause-syntax
returns-clause-syntax c = λ tokens end a b x y. one_syntax_fault tokens end a b x y

pub returns-clause-depth : goal.returns-clause-depth
returns-clause-depth c = λ tokens a b x y. one_depth tokens a b x y

pub returns-clause-not_both : goal.returns-clause-not_both
returns-clause-not_both c = λ tokens end a b x y. not_both tokens end a b x y

pub returns-clause-no_syntax : goal.returns-clause-no_syntax
returns-clause-no_syntax c = λ tokens end at p x. x.none p.program p.spelled

pub returns-clause-no_depth : goal.returns-clause-no_depth
returns-clause-no_depth c = λ tokens at p x. light_not_deep tokens at p x
