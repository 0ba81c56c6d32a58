use Rattle.std.proofs.Common.{◌<◌, ◌+◌, length, sum, ap, subst, arith, rules}
use Rattle.std.proofs.lemmas.List.{length-set}
use Rattle.mdf_order.specs.Internal.Above.{IsAbove}
use Rattle.mdf_order.proofs.Sums.{sum-whole}
use Rattle.mdf_order.proofs.Changes.{above-changed}
use Rattle.mdf_order.proofs.counts.Counts.+raise.Goals as goal
use Rattle.mdf_order.proofs.counts.Counts.+raise.Goals.{in-Some, in_default}

pub raise-requires : goal.raise-requires
raise-requires t c =
    let is = subst (IsAbove c.self.inside.numbers.items) c.in-Some.is c.self.invariant in (
      search rules,
      (
        omega (arith, is.1.all_there, c.requires.there, ap length c.self.view_is, ap length c.deref_mut.ensures.value),
        omega (arith, sum-whole (λ number. number) c.self.inside.numbers.items c.in-Some.above.value is.1, c.requires.fits, ap sum c.self.view_is, ap sum c.deref_mut.ensures.value),
      ),
    )

pub invariant_of-self : goal.invariant_of-self
invariant_of-self t c =
    let there : c.args.at < length c.self.inside.numbers.items = omega (arith, ap length c.self.view_is, c.requires.there) in
    elim c.match-self.branch [
      | in-Some w ↦
          let is = subst (IsAbove c.self.inside.numbers.items) w.in-Some.is c.self.invariant in
          rw w.self-inside-is
          (above-changed c.self.inside.numbers.items w.in-Some.above.value w.deref_mut.result.now w.raise.new.self c.args.at c.index_mut.result.now (c.index_mut.result.now + 1) _
          is there c.index_mut.ensures.value w.deref_mut.ensures.value w.raise.ensures (omega arith))
      | in_default w ↦
          let is = subst (IsAbove c.self.inside.numbers.items) w.in_default.is c.self.invariant in
          rw (w.self-inside-is, w.in_default.is) (omega (arith, is, length-set c.self.inside.numbers.items c.args.at (c.index_mut.result.now + 1)))
    ]
