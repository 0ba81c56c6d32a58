use Rattle.std.proofs.Common.{subst}
use Rattle.mdf_machine.specs.RightCourses.{IsRight}
use Rattle.mdf_machine.proofs.machine.Machine.is_right.Goals as goal

pub returns : goal.returns
returns c = let k = c.self.invariant in subst IsRight c.self.view_is (record { is_log = k.is_log; image = k.image; plain = k.plain; budget = k.budget })
