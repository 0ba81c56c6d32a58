use Rattle.std.proofs.Common.{arith}
use Rattle.mdf_vm.proofs.Reversed.{nothing_below, seen_below}
use Rattle.mdf_vm.proofs.word_stack.WordStack.below.Goals as goal

pub returns-clause-value : goal.returns-clause-value
returns-clause-value c =
    seen_below c.live-items.result.now c.args.self.now c.args.count c.in_ok-place.place c.word_at.result c.live-items.ensures c.in_ok-place.ensures.0 c.in_ok-place.ensures.1 c.word_at.ensures

pub returns-in_err-place-clause-value : goal.returns-in_err-place-clause-value
returns-in_err-place-clause-value c =
    rw c.from_residual.ensures
    (nothing_below c.live-items.result.now c.args.self.now c.args.count c.live-items.ensures (omega (arith, c.in_err-place.ensures)))
