use Rattle.std.proofs.Common.{◌<◌, length, true, ap, arith}
use Rattle.mdf_order.specs.Internal.Marks.{mark_count}
use Rattle.mdf_order.proofs.Sums.{sum-whole}
use Rattle.mdf_order.proofs.Marks.{count-lt-length, counted-set}
use Rattle.mdf_order.proofs.serials.Serials.insert.Goals as goal

pub raise-requires-clause-fits : goal.raise-requires-clause-fits
raise-requires-clause-fits c =
    let marks = c.self.inside.marks.items in
    let there : c.args.serial < length marks = omega (arith, c.requires, ap length c.self.view_is) in
    omega (
      arith,
      sum-whole mark_count marks c.self.inside.blocks c.self.invariant.in_blocks,
      c.self.invariant.numbered,
      count-lt-length marks c.args.serial c.index.result.now there c.index.ensures c.if-not-index.true,
    )

pub overflow_add-self : goal.overflow_add-self
overflow_add-self c =
    let marks = c.self.inside.marks.items in
    let there : c.args.serial < length marks = omega (arith, c.requires, ap length c.self.view_is) in
    omega (
      arith,
      c.self.invariant.in_all,
      c.self.invariant.numbered,
      count-lt-length marks c.args.serial c.index.result.now there c.index.ensures c.if-not-index.true,
    )

pub invariant_of-self : goal.invariant_of-self
invariant_of-self c =
    let marks = c.self.inside.marks.items in
    let there : c.args.serial < length marks = omega (arith, c.requires, ap length c.self.view_is) in
    let out = ap mark_count c.if-not-index.true in
    counted-set marks c.self.inside.blocks c.raise.new.self c.self.inside.count _ c.args.serial _ c.index.result.now true c.self.invariant
    there c.index.ensures c.raise.ensures (omega (arith, out)) (omega (arith, out))
