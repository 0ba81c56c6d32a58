use Rattle.std.proofs.Common.{ap, sym, ◌∙◌, ◌+◌, ◌-◌, length, refl, set, take}
use Rattle.std.specs.Prelude.{reverse}
use Rattle.std.proofs.lemmas.List.{length-set}
use Rattle.mdf_vm.proofs.Reversed.{replaced, written}
use Rattle.mdf_vm.proofs.stack.Stack.replace.Goals as goal

pub returns : goal.returns
returns g c =
    let items = c.as_mut_slice-items.result.now in
    let changed = set items (length items - c.args.count) c.args.item in
    let same = length-set items (length items - c.args.count) c.args.item ∙ ap length c.as_mut_slice-items.ensures.value in
    replaced items c.args.self.now c.truncate.new.self.items changed c.args.count c.args.item
    (ap reverse c.as_mut_slice-items.ensures.value ∙ c.self.view_is) c.requires.some c.requires.there refl
    (c.truncate.ensures.items ∙ ap (take (length items - c.args.count + 1)) (written changed c.self.inside.items.items c.self.inside.items.len same (sym c.as_mut_slice-items.ensures.len ∙ ap length c.as_mut_slice-items.ensures.value)))
