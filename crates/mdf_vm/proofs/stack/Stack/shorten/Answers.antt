use Rattle.std.proofs.Common.{ap, ◌∙◌, ◌-◌, take, length}
use Rattle.mdf_vm.proofs.Reversed.{shortened}
use Rattle.mdf_vm.proofs.stack.Stack.shorten.Goals as goal

pub returns : goal.returns
returns g c =
    shortened c.self.inside.items.items c.args.self.now c.truncate.new.self.items c.args.count c.self.view_is c.requires
    (c.truncate.ensures.items ∙ ap (λ items. take (length items - c.args.count) c.self.inside.items.items) c.as_slice-items.ensures.value)
