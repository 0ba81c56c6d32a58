use Rattle.std.proofs.Common.{length, ap, arith}
use Rattle.mdf_machine.specs.declared.parts.Parts.{Parts}
use Rattle.mdf_machine.proofs.Adding.{rows_longer}
use Rattle.mdf_machine.proofs.parts.Parts.add_row.Goals as goal

pub drop_call-requires : goal.drop_call-requires
drop_call-requires c = omega (arith, c.requires.caller, rows_longer c.args.self.now.rows c.args.call.now, ap length c.in_ok-add_call.ensures.ok, ap (λ (q : Parts). length q.rows) c.in-Err.ensures.err)
