-- The row above has one block more where one begins.
use Rattle.std.proofs.Common.{◌∷◌, [], sum, length, ap, subst, ◌∙◌, arith, rules}
use Rattle.std.proofs.lemmas.List.{length_push}
use Rattle.mdf_order.specs.Internal.Above.{IsAbove}
use Rattle.mdf_order.proofs.Sums.{sum-whole}
use Rattle.mdf_order.proofs.Changes.{above-pushed, above-same, above-two}
use Rattle.mdf_order.proofs.counts.Counts.+push.Goals as goal
use Rattle.mdf_order.proofs.counts.Counts.+push.Goals.{in-Some+then-len-eq0+in_ok-push-in-Some, in-Some+else-len-eq0, in-None+then-len-eq-BLOCK+in_ok-above_block-in-None+in-Some-1, in-None+then-len-eq-BLOCK+in_ok-above_block-in-None+in-None-1, in-None+else-len-eq-BLOCK}

pub push-requires : goal.push-requires
push-requires t c =
    let is = subst (IsAbove c.self.inside.numbers.items) c.in-Some.is c.self.invariant in
    (search rules, omega (arith, sum-whole (λ number. number) c.self.inside.numbers.items c.in-Some.above.value is.1, c.requires, ap sum c.self.view_is, ap sum c.deref_mut.ensures.value))

pub invariant_of-self-2 : goal.invariant_of-self-2
invariant_of-self-2 t c =
    let numbers = c.self.inside.numbers.items in
    elim c.match-self.branch [
      | in-Some+then-len-eq0+in_ok-push-in-Some w ↦
          let is = subst (IsAbove numbers) w.in-Some.is c.self.invariant in
          rw (c.push_reserved.ensures.items, w.self-inside-is, c.reserve.ensures.items)
          (above-pushed numbers w.in-Some.above.value w.deref_mut.result.now w.push.new.self w.len.result is
          (omega (arith, w.len.ensures, ap length c.reserve.ensures.items)) w.if-len-eq0.true w.deref_mut.ensures.value w.in_ok-push-in-Some.ensures.ok)
      | in-Some+else-len-eq0 w ↦
          let is = subst (IsAbove numbers) w.in-Some.is c.self.invariant in
          rw (c.push_reserved.ensures.items, w.self-inside-is, c.reserve.ensures.items)
          (above-same numbers w.in-Some.above.value w.len.result is (omega (arith, w.len.ensures, ap length c.reserve.ensures.items)) w.if-len-eq0.false)
      | in-None+then-len-eq-BLOCK+in_ok-above_block-in-None+in-Some-1 w ↦
          rw (c.push_reserved.ensures.items, w.self-inside-is, c.reserve.ensures.items)
          (above-two numbers _ (omega (arith, w.if-len-eq-BLOCK.true, w.len-in-None.ensures, ap length c.reserve.ensures.items))
          (w.in_ok-above_block-in-None.ensures ∙ ap (λ ns. sum ns ∷ 0 ∷ []) (w.deref.ensures.value ∙ c.reserve.ensures.items)))
      | in-None+then-len-eq-BLOCK+in_ok-above_block-in-None+in-None-1 w ↦
          rw (c.push_reserved.ensures.items, w.self-inside-is, c.reserve.ensures.items)
          (above-two numbers _ (omega (arith, w.if-len-eq-BLOCK.true, w.len-in-None.ensures, ap length c.reserve.ensures.items))
          (w.in_ok-above_block-in-None.ensures ∙ ap (λ ns. sum ns ∷ 0 ∷ []) (w.deref.ensures.value ∙ c.reserve.ensures.items)))
      | in-None+else-len-eq-BLOCK w ↦
          let is = subst (IsAbove numbers) w.in-None.is c.self.invariant in
          rw (c.push_reserved.ensures.items, w.self-inside-is, c.reserve.ensures.items, w.in-None.is)
          (omega (arith, is, length_push numbers 0, w.if-len-eq-BLOCK.false, w.len-in-None.ensures, ap length c.reserve.ensures.items))
    ]
