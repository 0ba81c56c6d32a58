use Rattle.std.proofs.Common.{◌≡◌, ◌<◌, length, ap, sym, refl, ◌∙◌, arith}
use Rattle.mdf_machine.specs.Internal.Rows.{changed, with_child, without_child, with_frame, without_frame}
use Rattle.mdf_machine.specs.declared.rows.Row.{Row}
use Rattle.mdf_machine.proofs.Changed.{changed-to, on_ok}
use Rattle.mdf_machine.proofs.rows.Rows.put_frame.Goals as goal

pub returns : goal.returns
returns c = changed-to (with_frame c.args.frame) c.args.actor c.self.inside.rows.items _ _ (omega (arith, c.requires, ap length c.self.view_is)) c.index_mut-row.ensures.value refl ∙ ap (changed (with_frame c.args.frame) c.args.actor) c.self.view_is
