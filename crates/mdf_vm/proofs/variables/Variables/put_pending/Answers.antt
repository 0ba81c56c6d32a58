use Rattle.std.proofs.Common.{ap, arith, length, refl, set, sym, ◌∙◌, Some}
use Rattle.std.proofs.lemmas.List.{map-set}
use Rattle.mdf_code.specs.Alone.{Pending}
use Rattle.mdf_vm.specs.Internal.Slots.{held_at}
use Rattle.mdf_vm.proofs.Laid.{got, same_places, seen_count}
use Rattle.mdf_vm.proofs.variables.Variables.put_pending.Goals as goal

pub invariant_of-self : goal.invariant_of-self
invariant_of-self c =
    let s = c.index_mut.result.now in
    let count = seen_count c.self.inside.words.items c.self.inside.slots.items c.args.self.now c.self.view_is in
    let there = got c.self.inside.slots.items c.self.inside.slots.items c.args.variable s refl c.index_mut.ensures.value (omega (arith, c.requires, count)) in
    same_places 0 (length c.self.inside.words.items) c.self.inside.slots.items c.args.variable s (Some c.args.number) c.self.invariant there

pub returns : goal.returns
returns c =
    let s = c.index_mut.result.now in
    map-set (held_at c.self.inside.words.items) c.self.inside.slots.items c.args.variable (record s { pending = Some c.args.number })
    ∙ ap (λ l. set l c.args.variable (Pending c.args.number)) c.self.view_is
