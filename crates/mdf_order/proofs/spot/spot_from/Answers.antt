use Rattle.mdf_order.proofs.Sums.{past_end}
use Rattle.mdf_order.proofs.spot.spot_from.Goals as goal

pub unreachable-requires : goal.unreachable-requires
unreachable-requires g c =
    past_end g.T.Counted.count c.args.row.now c.args.from c.loop-item.item c.loop-item.left c.args.place c.loop-item-test.false c.loop-item.invariant c.requires
