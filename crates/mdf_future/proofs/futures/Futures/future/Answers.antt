use Rattle.std.proofs.Common.{ap, ◌∙◌}
use Rattle.std.specs.FinMap.{get}
use Rattle.mpl_value.proofs.Table.{lookup-get}
use Rattle.mdf_future.proofs.futures.Futures.future.Goals as goal

pub returns : goal.returns
returns c = c.get.ensures.value ∙ lookup-get _ c.args.actor ∙ ap (λ t. get t.results c.args.actor) c.self.view_is
