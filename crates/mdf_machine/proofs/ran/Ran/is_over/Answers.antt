use Rattle.std.proofs.Common.{subst}
use Rattle.mdf_machine.specs.RightCourses.{IsOver}
use Rattle.mdf_machine.proofs.ran.Ran.is_over.Goals as goal

pub returns : goal.returns
returns c = subst IsOver c.self.view_is c.self.invariant
