use Rattle.mdf_mean.proofs.Alike.{agreed_alike, agreed_explains, agreed_over, explained_there, same_journal}
use Rattle.mdf_mean.proofs.laws.agreeing_meanings_explain_the_same.Goals as goal

pub returns-clause-explained : goal.returns-clause-explained
returns-clause-explained c = λ s other h law g.
    (λ e. explained_there s (record s { meaning = other }) (λ h. Unit {0}) (agreed_alike s law other g) h e tt, λ e. agreed_explains s law other g h e)

pub returns-clause-same : goal.returns-clause-same
returns-clause-same c = λ s other h law g e. same_journal s (record s { meaning = other }) (λ h. Unit {0}) (agreed_alike s law other g) h e tt

pub returns-clause-over : goal.returns-clause-over
returns-clause-over c = λ s other h law g. agreed_over s law other g h
