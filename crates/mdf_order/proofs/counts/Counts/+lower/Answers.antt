use Rattle.std.proofs.Common.{◌<◌, ◌-◌, ◌/◌, length, ap, subst, arith, rules}
use Rattle.std.specs.Prelude.{slice_index}
use Rattle.std.proofs.lemmas.List.{length-set, get_or_read}
use Rattle.mdf_order.specs.Internal.Above.{IsAbove}
use Rattle.mdf_order.proofs.Changes.{above-changed, number-there, item-le-block}
use Rattle.mdf_order.proofs.counts.Counts.+lower.Goals as goal
use Rattle.mdf_order.proofs.counts.Counts.+lower.Goals.{in-Some, in_default}

pub lower-requires : goal.lower-requires
lower-requires t c =
    let is = subst (IsAbove c.self.inside.numbers.items) c.in-Some.is c.self.invariant in
    let there : c.args.at < length c.self.inside.numbers.items = omega (arith, ap length c.self.view_is, number-there c.args.self.now c.args.at c.requires) in (
      search rules,
      omega (
        arith,
        c.requires,
        ap (λ ns. slice_index ns c.args.at) c.self.view_is,
        ap (λ ns. slice_index ns (c.args.at / 16)) c.deref_mut.ensures.value,
        item-le-block (λ number. number) c.self.inside.numbers.items c.in-Some.above.value c.args.at 0 is.1 there,
      ),
    )

pub invariant_of-self : goal.invariant_of-self
invariant_of-self t c =
    let there : c.args.at < length c.self.inside.numbers.items = omega (arith, ap length c.self.view_is, number-there c.args.self.now c.args.at c.requires) in
    let some : 0 < c.index_mut.result.now = omega (arith, c.requires, ap (λ ns. slice_index ns c.args.at) c.self.view_is, get_or_read c.self.inside.numbers.items c.args.at c.index_mut.result.now there c.index_mut.ensures.value 0) in
    elim c.match-self.branch [
      | in-Some w ↦
          let is = subst (IsAbove c.self.inside.numbers.items) w.in-Some.is c.self.invariant in
          rw w.self-inside-is
          (above-changed c.self.inside.numbers.items w.in-Some.above.value w.deref_mut.result.now w.lower.new.self c.args.at c.index_mut.result.now (c.index_mut.result.now - 1) _
          is there c.index_mut.ensures.value w.deref_mut.ensures.value w.lower.ensures
          (omega (
            arith,
            some,
            get_or_read c.self.inside.numbers.items c.args.at c.index_mut.result.now there c.index_mut.ensures.value 0,
            ap (λ ns. slice_index ns (c.args.at / 16)) w.deref_mut.ensures.value,
            item-le-block (λ number. number) c.self.inside.numbers.items w.in-Some.above.value c.args.at 0 is.1 there,
          )))
      | in_default w ↦
          let is = subst (IsAbove c.self.inside.numbers.items) w.in_default.is c.self.invariant in
          rw (w.self-inside-is, w.in_default.is) (omega (arith, is, length-set c.self.inside.numbers.items c.args.at (c.index_mut.result.now - 1)))
    ]
