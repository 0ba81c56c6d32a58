use Rattle.std.proofs.Common.{ap, sym, ◌∙◌, arith}
use Rattle.std.specs.Prelude.{slice_get}
use Rattle.std.proofs.lemmas.Option.{slice_get_past}
use Rattle.mdf_order.specs.InOrder.{serials_in}
use Rattle.mdf_order.specs.Internal.Marks.{mark_count}
use Rattle.mdf_order.proofs.Sums.{sum-whole, within_block, spot-from_block}
use Rattle.mdf_order.proofs.InOrderSerials.{length-serials_in, nth-spot}
use Rattle.mdf_order.proofs.serials.Serials.nth.Goals as goal

pub spot-block-requires : goal.spot-block-requires
spot-block-requires c =
    omega (arith, sum-whole mark_count c.self.inside.marks.items c.self.inside.blocks c.self.invariant.in_blocks, c.self.invariant.in_all, c.if-place-self.true)

pub spot_from-spot-requires : goal.spot_from-spot-requires
spot_from-spot-requires c =
    rw c.deref.ensures.value
    (within_block mark_count c.self.inside.marks.items c.self.inside.blocks c.args.place c.spot-block.result c.self.invariant.in_blocks c.spot-block.ensures)

pub returns-then-place-self : goal.returns-then-place-self
returns-then-place-self c =
    let marks = c.self.inside.marks.items in
    let found = spot-from_block mark_count marks c.deref.result.now c.self.inside.blocks c.args.place c.spot-block.result c.spot_from-spot.result
    c.self.invariant.in_blocks c.spot-block.ensures c.deref.ensures.value c.spot_from-spot.ensures in
    sym (nth-spot marks c.args.place c.spot_from-spot.result found) ∙ ap (λ ms. slice_get (serials_in ms) c.args.place) c.self.view_is

pub returns-else-place-self : goal.returns-else-place-self
returns-else-place-self c =
    sym (slice_get_past (serials_in c.self.inside.marks.items) c.args.place
    (omega (arith, length-serials_in c.self.inside.marks.items, c.self.invariant.in_all, c.if-place-self.false)))
    ∙ ap (λ ms. slice_get (serials_in ms) c.args.place) c.self.view_is
