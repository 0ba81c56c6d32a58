use Rattle.std.proofs.Common.{ap, ◌∙◌}
use Rattle.std.specs.FinMap.{remove}
use Rattle.mdf_match.proofs.Tables.{removed}
use Rattle.mdf_match.proofs.matcher.Matcher.close.Goals as goal

pub returns : goal.returns
returns c = removed _ _ c.args.actor c.remove.ensures.updates.0 ∙ ap (λ m. remove m c.args.actor) c.self.view_is
