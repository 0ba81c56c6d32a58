use Rattle.mdf_machine.proofs.Adding.{call_dropped}
use Rattle.mdf_machine.proofs.rows.Rows.drop_call.Goals as goal

pub returns : goal.returns
returns c before child row was = call_dropped c.args.caller child before c.args.self.now c.pop.new.self c.drop_child.new.self row c.pop.ensures c.drop_child.ensures was
