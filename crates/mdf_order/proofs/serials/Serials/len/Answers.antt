use Rattle.std.proofs.Common.{length, ap, sym, ◌∙◌}
use Rattle.mdf_order.specs.InOrder.{serials_in}
use Rattle.mdf_order.proofs.InOrderSerials.{length-serials_in}
use Rattle.mdf_order.proofs.serials.Serials.len.Goals as goal

pub returns : goal.returns
returns c = c.self.invariant.in_all ∙ sym (length-serials_in c.self.inside.marks.items) ∙ ap (λ marks. length (serials_in marks)) c.self.view_is
