use Rattle.std.proofs.Common.{◌≡◌, ◌<◌, length, ap, sym, refl, ◌∙◌, arith}
use Rattle.mdf_machine.specs.Internal.Rows.{changed, with_child, without_child, with_frame, without_frame}
use Rattle.mdf_machine.specs.declared.rows.Row.{Row}
use Rattle.mdf_machine.proofs.Changed.{changed-to}
use Rattle.mdf_machine.proofs.rows.Rows.add_child.Goals as goal

pub returns-clause-ok : goal.returns-clause-ok
returns-clause-ok c = changed-to (with_child c.args.child) c.args.actor c.self.inside.rows.items _ _ (omega (arith, c.requires, ap length c.self.view_is)) c.index_mut-row.ensures.value (ap (λ f. record c.index_mut-row.result.now { children = f }) c.in_ok-push.ensures.ok) ∙ ap (changed (with_child c.args.child) c.args.actor) c.self.view_is
