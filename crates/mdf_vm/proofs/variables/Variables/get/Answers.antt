use Rattle.std.proofs.Common.{ap, arith, length, sym, ◌∙◌, Some}
use Rattle.std.specs.Prelude.{slice_get}
use Rattle.mpl_value.specs.Words.{words_at}
use Rattle.mdf_vm.specs.Internal.Slots.{held_by}
use Rattle.mdf_vm.proofs.Laid.{got, seen_at, within}
use Rattle.mdf_vm.proofs.variables.Variables.get.Goals as goal

pub region-words-requires : goal.region-words-requires
region-words-requires c =
    let s = c.in_ok-slot.slot.now in
    let there = got c.self.inside.slots.items c.deref.result.now c.args.variable s c.deref.ensures.value c.in_ok-slot.ensures.lookup.1 c.in_ok-slot.ensures.lookup.3.0 in
    let place = within 0 (length c.self.inside.words.items) c.self.inside.slots.items c.args.variable s c.self.invariant there in
    omega (arith, place.1, ap length c.as_slice.ensures.value)

pub returns : goal.returns
returns c =
    let s = c.in_ok-slot.slot.now in
    let there = got c.self.inside.slots.items c.deref.result.now c.args.variable s c.deref.ensures.value c.in_ok-slot.ensures.lookup.1 c.in_ok-slot.ensures.lookup.3.0 in
    ap Some (c.new.ensures ∙ ap (held_by s.pending) (c.region-words.ensures ∙ ap (words_at s.at s.count) c.as_slice.ensures.value))
    ∙ (sym (seen_at c.self.inside.words.items c.self.inside.slots.items c.args.variable s there) ∙ ap (λ l. slice_get l c.args.variable) c.self.view_is)
