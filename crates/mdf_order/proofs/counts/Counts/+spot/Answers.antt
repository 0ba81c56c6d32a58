-- The row above tells the block.
use Rattle.std.proofs.Common.{sum, ap, subst, arith, rules}
use Rattle.mdf_order.specs.Internal.Above.{IsAbove}
use Rattle.mdf_order.specs.Internal.Spots.{IsSpot}
use Rattle.mdf_order.proofs.Sums.{sum-whole, within_block, spot-from_block}
use Rattle.mdf_order.proofs.counts.Counts.+spot.Goals as goal

pub spot-block-requires : goal.spot-block-requires
spot-block-requires t c =
    let is = subst (IsAbove c.self.inside.numbers.items) c.in-Some.is c.self.invariant in
    (search rules, omega (arith, sum-whole (λ number. number) c.self.inside.numbers.items c.in-Some.above.value is.1, c.requires, ap sum c.self.view_is, ap sum c.deref.ensures))

pub spot_from-requires : goal.spot_from-requires
spot_from-requires t c =
    let is = subst (IsAbove c.self.inside.numbers.items) c.in-Some.is c.self.invariant in
    let block = subst (λ sums. IsSpot (λ number. number) sums c.args.place c.spot-block.result) c.deref.ensures c.spot-block.ensures in
    rw c.deref-in-Some.ensures.value (within_block (λ number. number) c.self.inside.numbers.items c.in-Some.above.value c.args.place c.spot-block.result is.1 block)

pub returns-in-Some : goal.returns-in-Some
returns-in-Some t c =
    let is = subst (IsAbove c.self.inside.numbers.items) c.in-Some.is c.self.invariant in
    let block = subst (λ sums. IsSpot (λ number. number) sums c.args.place c.spot-block.result) c.deref.ensures c.spot-block.ensures in
    subst (λ numbers. IsSpot (λ number. number) numbers c.args.place c.spot_from.result) c.self.view_is
    (spot-from_block (λ number. number) c.self.inside.numbers.items c.deref-in-Some.result.now c.in-Some.above.value c.args.place c.spot-block.result c.spot_from.result
    is.1 block c.deref-in-Some.ensures.value c.spot_from.ensures)
