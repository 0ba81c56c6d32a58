use Rattle.std.proofs.Common.{◌<◌, length, false, ap, arith}
use Rattle.std.proofs.lemmas.List.Sums.{get_or-le-sum_by}
use Rattle.mdf_order.specs.Internal.Marks.{mark_count}
use Rattle.mdf_order.proofs.Changes.{item-le-block}
use Rattle.mdf_order.proofs.Marks.{counted-set}
use Rattle.mdf_order.proofs.serials.Serials.remove.Goals as goal

pub lower-requires : goal.lower-requires
lower-requires c =
    let marks = c.self.inside.marks.items in
    let there : c.args.serial < length marks = omega (arith, c.requires, ap length c.self.view_is) in
    omega (
      arith,
      item-le-block mark_count marks c.self.inside.blocks c.args.serial c.index.result.now c.self.invariant.in_blocks there,
      ap mark_count c.index.ensures,
      ap mark_count c.if-index.true,
    )

pub invariant_of-self : goal.invariant_of-self
invariant_of-self c =
    let marks = c.self.inside.marks.items in
    let there : c.args.serial < length marks = omega (arith, c.requires, ap length c.self.view_is) in
    let within = ap mark_count c.if-index.true in
    let block = item-le-block mark_count marks c.self.inside.blocks c.args.serial c.index.result.now c.self.invariant.in_blocks there in
    counted-set marks c.self.inside.blocks c.lower.new.self c.self.inside.count _ c.args.serial _ c.index.result.now false c.self.invariant
    there c.index.ensures c.lower.ensures (omega (arith, within, block, ap mark_count c.index.ensures)) (omega (arith, within, ap mark_count c.index.ensures, c.self.invariant.in_all, get_or-le-sum_by mark_count marks c.args.serial c.index.result.now there))
