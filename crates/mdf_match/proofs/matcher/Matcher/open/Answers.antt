use Rattle.std.proofs.Common.{ap₂, ◌∙◌}
use Rattle.std.specs.FinMap.{insert}
use Rattle.mpl_value.proofs.Table.{updated}
use Rattle.mdf_match.proofs.matcher.Matcher.open.Goals as goal

pub returns-clause-ok : goal.returns-clause-ok
returns-clause-ok c =
    updated _ _ c.args.actor c.in_ok-ports.ports c.in_ok-insert.ensures.updates.0
    ∙ ap₂ (λ m row. insert m c.args.actor row) c.self.view_is c.in_ok-ports.ensures
