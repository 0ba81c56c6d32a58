-- The newest serial is taken out, so that its mark counts nothing.
use Rattle.std.proofs.Common.{◌≡◌, ◌-◌, ◌++◌, ◌∷◌, [], ◌%◌, length, take, false, ap, sym, subst, ◌∙◌, arith}
use Rattle.std.specs.Prelude.{slice_set}
use Rattle.mdf_order.specs.Internal.Marks.{IsCounted}
use Rattle.mdf_order.proofs.Popped.{counted-dropped, counted-fewer, marks-left, marks-split}
use Rattle.mdf_order.proofs.serials.Serials.withdraw.Goals as goal

pub invariant_of-self : goal.invariant_of-self
invariant_of-self c =
    let marks = c.self.inside.marks.items in
    let left : c.pop.new.self.items ≡ take (length marks - 1) marks = c.pop.ensures.rest ∙ ap (λ n. take (n - 1) marks) (omega arith) in
    let set = c.self.view_is ∙ c.remove.ensures in
    let split = marks-split c.args.self.now marks c.pop.new.self.items c.total-newest.result c.requires c.total-newest.ensures set left in
    counted-dropped c.pop.new.self.items c.self.inside.blocks c.pop-then-newest-eq0.new.self c.self.inside.count
    (subst (λ ms. IsCounted ms c.self.inside.blocks c.self.inside.count) split c.self.invariant)
    (omega (arith, c.if-newest-eq0.true, marks-left c.args.self.now marks c.pop.new.self.items c.total-newest.result c.total-newest.ensures set split)) c.pop-then-newest-eq0.ensures

pub invariant_of-self-else-newest-eq0 : goal.invariant_of-self-else-newest-eq0
invariant_of-self-else-newest-eq0 c =
    let marks = c.self.inside.marks.items in
    let left : c.pop.new.self.items ≡ take (length marks - 1) marks = c.pop.ensures.rest ∙ ap (λ n. take (n - 1) marks) (omega arith) in
    let set = c.self.view_is ∙ c.remove.ensures in
    let split = marks-split c.args.self.now marks c.pop.new.self.items c.total-newest.result c.requires c.total-newest.ensures set left in
    let counted = marks-left c.args.self.now marks c.pop.new.self.items c.total-newest.result c.total-newest.ensures set split in
    counted-fewer c.pop.new.self.items c.self.inside.blocks c.self.inside.count
    (subst (λ ms. IsCounted ms c.self.inside.blocks c.self.inside.count) split c.self.invariant)
    (λ whole. c.if-newest-eq0.false (omega (arith, whole, counted)))
