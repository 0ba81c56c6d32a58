use Rattle.std.proofs.Common.{ap, ◌∙◌}
use Rattle.std.specs.FinMap.{get}
use Rattle.mpl_value.proofs.Table.{lookup-get}
use Rattle.mpl_value.proofs.replies.Replies.get.Goals as goal

pub returns : goal.returns
returns c = c.get.ensures.value ∙ lookup-get _ c.args.call ∙ ap (λ m. get m c.args.call) c.self.view_is
