use Rattle.std.proofs.Common.{length, ap, ◌∙◌, arith}
use Rattle.mdf_machine.specs.Internal.Rows.{changed, with_child, without_child}
use Rattle.mdf_machine.proofs.Adding.{child_dropped}
use Rattle.mdf_machine.proofs.Changed.{changed-length}
use Rattle.mdf_machine.proofs.rows.Rows.add_call.Goals as goal

pub drop_child-requires : goal.drop_child-requires
drop_child-requires c = omega (arith, c.requires, changed-length (with_child c.args.call.now.callee) c.args.call.now.caller c.args.self.now, ap length (c.in-Err.ensures.err ∙ c.in_ok-add_child.ensures.ok))

pub returns-in-Err-clause-err : goal.returns-in-Err-clause-err
returns-in-Err-clause-err c =
    c.drop_child.ensures ∙ ap (changed without_child c.args.call.now.caller) (c.in-Err.ensures.err ∙ c.in_ok-add_child.ensures.ok)
    ∙ child_dropped c.args.call.now.caller c.args.call.now.callee c.args.self.now
