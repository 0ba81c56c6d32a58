-- The row above has one block less where one ends.
use Rattle.std.proofs.Common.{◌≡◌, ◌-◌, ◌++◌, ◌∷◌, [], ◌<◌, ◌%◌, length, take, ap, subst, sym, ◌∙◌, arith}
use Rattle.std.specs.Prelude.{slice_index, Option, Some, None, Box, vec_len}
use Rattle.mdf_order.specs.declared.counts.TheConstants.{BLOCK}
use Rattle.mdf_order.specs.Internal.Above.{IsAbove}
use Rattle.mdf_order.proofs.Popped.{above-kept, above-popped, row-split, fewer}
use Rattle.mdf_order.proofs.counts.Counts.+pop.Goals as goal

pub invariant_of-self-in-Some : goal.invariant_of-self-in-Some
invariant_of-self-in-Some t c =
    let numbers = c.self.inside.numbers.items in
    let some : 0 < length numbers = omega (arith, c.requires.some, ap length c.self.view_is) in
    let none : slice_index numbers (length numbers - 1) ≡ 0 = ap (λ ns. slice_index ns (length ns - 1)) c.self.view_is ∙ c.requires.none in
    let left : c.pop.new.self.items ≡ take (length numbers - 1) numbers = c.pop.ensures.rest ∙ ap (λ n. take (n - 1) numbers) (omega arith) in
    above-popped numbers c.pop.new.self.items c.in-Some.above.value c.deref_mut.result.now c.pop-in-Some.new.self (row-split numbers c.pop.new.self.items some none left)
    (subst (IsAbove numbers) c.in-Some.is c.self.invariant)
    (omega (arith, c.len.ensures, c.if-len-le-BLOCK.false)) (omega (arith, c.len-else-len-le-BLOCK.ensures, c.if-len-eq0.true)) c.deref_mut.ensures.value c.pop-in-Some.ensures

pub invariant_of-self-else-len-eq0 : goal.invariant_of-self-else-len-eq0
invariant_of-self-else-len-eq0 t c =
    let numbers = c.self.inside.numbers.items in
    let some : 0 < length numbers = omega (arith, c.requires.some, ap length c.self.view_is) in
    let none : slice_index numbers (length numbers - 1) ≡ 0 = ap (λ ns. slice_index ns (length ns - 1)) c.self.view_is ∙ c.requires.none in
    let left : c.pop.new.self.items ≡ take (length numbers - 1) numbers = c.pop.ensures.rest ∙ ap (λ n. take (n - 1) numbers) (omega arith) in
    above-kept numbers c.pop.new.self.items c.self.inside.above (row-split numbers c.pop.new.self.items some none left) c.self.invariant
    (omega (arith, c.len.ensures, c.if-len-le-BLOCK.false)) (λ whole. c.if-len-eq0.false (omega (arith, c.len-else-len-le-BLOCK.ensures, whole)))
