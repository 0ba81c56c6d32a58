use Rattle.std.proofs.Common.{ap, ◌∙◌, ◌-◌, ◌∷◌, arith, drop, length}
use Rattle.mdf_vm.proofs.Reversed.{top_changed, top_is}
use Rattle.mdf_vm.proofs.stack.«Stack+Caller».hand.Goals as goal

pub returns-clause-ok : goal.returns-clause-ok
returns-clause-ok c =
    let items = c.self.inside.items.items in
    let place = length c.as_slice-count.result.now - 1 in
    let old = c.index_mut-caller.result.now in
    let last = ap length c.as_slice-count.ensures.value in (
      old,
      top_is items c.args.self.now place old c.self.view_is (omega (arith, last)) c.index_mut-caller.ensures.value,
      top_changed items c.args.self.now place old c.take.new.self c.self.view_is (omega (arith, last)) ∙ ap (λ caller. caller ∷ drop 1 c.args.self.now) c.in_ok-take.ensures.ok,
    )
