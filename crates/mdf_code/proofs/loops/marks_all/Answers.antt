use Rattle.std.proofs.Common.{arith, refl, ◌∙◌}
use Rattle.mdf_code.proofs.MarkedPlaces.{marks_decide, marks_within}
use Rattle.mdf_code.proofs.loops.marks_all.Goals as goal

pub loop-smaller : goal.loop-smaller
loop-smaller c = omega (arith, marks_within c.mark_more.new.marked, c.loop-test.ensures.more refl, c.mark_more.ensures.same)

pub returns : goal.returns
returns c = c.are_all.ensures ∙ marks_decide _ _ c.mark_more.ensures.same c.mark_more.ensures.right (c.loop-test.ensures.closed refl)
