use Rattle.std.proofs.Common.{arith}
use Rattle.mpl_mean.proofs.Lists.{next_left, none_left}
use Rattle.mpl_depend.specs.Internal.Bodies.{item_row}
use Rattle.mpl_depend.specs.Internal.SeenClass.{items_seen}
use Rattle.mpl_depend.proofs.Marking.{row_ends, row_goes_on}
use Rattle.mpl_depend.proofs.bodies.mark_members.Goals as goal

pub loop-item-preserved : goal.loop-item-preserved
loop-item-preserved c =
    let list = c.args.items.now in
    let i = c.loop-item.item-index in
    let x = c.item-item.result in
    row_goes_on (item_row c.args.known.now (items_seen c.args.object)) list i x c.args.marks.now.items c.loop-item.marks.items c.mark_member.new.marks.items (next_left list i x (omega arith) c.item-item.is) c.loop-item.invariant c.in_ok-mark_member.ensures

pub returns : goal.returns
returns c =
    let list = c.args.items.now in
    let i = c.loop-item.item-index in
    row_ends (item_row c.args.known.now (items_seen c.args.object)) list i c.args.marks.now.items c.loop-item.marks.items (none_left list i (omega arith)) c.loop-item.invariant
