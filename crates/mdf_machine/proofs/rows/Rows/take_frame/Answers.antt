use Rattle.std.proofs.Common.{◌≡◌, ◌<◌, length, ap, sym, refl, ◌∙◌, arith}
use Rattle.mdf_machine.specs.Internal.Rows.{changed, with_child, without_child, with_frame, without_frame}
use Rattle.mdf_machine.specs.declared.rows.Row.{Row}
use Rattle.mdf_machine.proofs.Changed.{changed-to}
use Rattle.mdf_machine.proofs.rows.Rows.take_frame.Goals as goal

pub returns-clause-rest : goal.returns-clause-rest
returns-clause-rest c = changed-to without_frame c.args.actor c.self.inside.rows.items _ _ (omega (arith, c.requires, ap length c.self.view_is)) c.index_mut-row.ensures.value (ap (λ f. record c.index_mut-row.result.now { frame = f }) c.replace.ensures.after) ∙ ap (changed without_frame c.args.actor) c.self.view_is
