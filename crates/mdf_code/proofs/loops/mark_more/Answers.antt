use Rattle.std.proofs.Common.{◌<◌, length, arith, sym, ◌∙◌, ◌-◌}
use Rattle.std.proofs.Math.ListN.{length-set}
use Rattle.mdf_code.proofs.MarkedPlaces.{one_more, right_with}
use Rattle.mdf_code.proofs.loops.mark_more.Goals as goal

pub loop-place-preserved-then-can_mark : goal.loop-place-preserved-then-can_mark
loop-place-preserved-then-can_mark c =
    let i = c.loop-place.invariant in
    let within : c.loop-place.place - 1 < length c.args.code.now = omega arith in
    let can = sym c.can_mark.ensures ∙ c.if-can_mark.true in
    let more = one_more c.args.code.now c.loop-place.marked (c.loop-place.place - 1) i.same within can in
    record {
      same = length-set c.loop-place.marked (c.loop-place.place - 1) _ ∙ i.same;
      below = omega arith;
      right = right_with c.args.code.now c.loop-place.marked (c.loop-place.place - 1) i.same within can i.right;
      grown = omega arith;
      more = λ _. omega arith;
      closed = λ h. absurd (cc h);
    }
