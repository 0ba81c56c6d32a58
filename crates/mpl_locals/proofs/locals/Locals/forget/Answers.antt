use Rattle.std.proofs.Common.{◌≡◌, ◌<◌, ◌-◌, ◌++◌, Some, ap, arith, rules, ◌∙◌}
use Rattle.std.specs.Prelude.{option_to_list, slice_index_or, vec_len}
use Rattle.mpl_locals.proofs.Variables.{forgot}
use Rattle.mpl_locals.proofs.locals.Locals.forget.Goals as goal

pub invariant_of-self-then-count-gt0 : goal.invariant_of-self-then-count-gt0
invariant_of-self-then-count-gt0 c =
    let items = c.self.inside.list.items in
    let x = c.index-local.result.now in
    let some : 0 < vec_len c.self.inside.list = search (arith, c.if-count-gt0.true, c.len-count.ensures) in
    let at : slice_index_or items (vec_len c.self.inside.list - 1) x ≡ x = search (rules, c.index-local.ensures, c.len-count.ensures) in
    let popped : c.pop.result ≡ Some x = c.pop.ensures.value x some ∙ ap (λ x. Some x) at in
    forgot items c.pop.new.self.items x c.self.inside.newest c.set.new.self (c.pop.ensures.items ∙ ap (λ o. c.pop.new.self.items ++ option_to_list o) popped) c.self.invariant.0 c.self.invariant.1 c.in_ok-set.ensures.ok
