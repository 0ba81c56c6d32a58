use Rattle.std.proofs.Common.{ap, ◌∙◌}
use Rattle.std.specs.FinMap.{insert}
use Rattle.mpl_value.proofs.Table.{updated}
use Rattle.mpl_value.proofs.replies.Replies.set.Goals as goal

pub returns-clause-ok : goal.returns-clause-ok
returns-clause-ok c =
    updated _ _ c.args.call c.args.known c.in_ok-insert.ensures.updates.0
    ∙ ap (λ m. insert m c.args.call c.args.known) c.self.view_is
