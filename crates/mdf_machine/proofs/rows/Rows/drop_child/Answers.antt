use Rattle.std.proofs.Common.{◌≡◌, ◌<◌, length, ap, sym, refl, ◌∙◌, arith}
use Rattle.mdf_machine.specs.Internal.Rows.{changed, with_child, without_child, with_frame, without_frame}
use Rattle.mdf_machine.specs.declared.rows.Row.{Row}
use Rattle.mdf_machine.proofs.Changed.{changed-to, on_ok}
use Rattle.mdf_machine.proofs.rows.Rows.drop_child.Goals as goal

pub returns : goal.returns
returns c = changed-to without_child c.args.actor c.self.inside.rows.items _ _ (omega (arith, c.requires, ap length c.self.view_is)) c.index_mut-row.ensures.value (ap (λ f. record c.index_mut-row.result.now { children = f }) c.pop.ensures) ∙ ap (changed without_child c.args.actor) c.self.view_is
