use Rattle.std.proofs.Common.{ap, arith, length, refl, sym, subst, ◌∙◌, ◌++◌, ◌∷◌, [], ◌≡◌, ◌<◌, Some}
use Rattle.std.specs.Prelude.{slice_get}
use Rattle.mpl_value.specs.Words.{words_at}
use Rattle.mdf_code.specs.Alone.{Held, Words}
use Rattle.mdf_vm.specs.Internal.Slots.{held_by}
use Rattle.mdf_vm.proofs.Laid.{got, other_kept, seen_at, seen_count, within}
use Rattle.mdf_vm.proofs.Operands.{on_ok}
use Rattle.mdf_vm.proofs.variables.Variables.lay.Goals as goal

pub region-requires : goal.region-requires
region-requires c =
    let s = c.index.result.now in
    let count = seen_count c.self.inside.words.items c.self.inside.slots.items c.args.self.now c.self.view_is in
    let there = got c.self.inside.slots.items c.self.inside.slots.items c.args.place s refl c.index.ensures (omega (arith, c.requires, count)) in
    let place = within 0 (length c.self.inside.words.items) c.self.inside.slots.items c.args.place s c.self.invariant there in
    omega (arith, place.1, ap length c.as_slice.ensures.value)

pub returns : goal.returns
returns c =
    let s = c.index.result.now in
    let count = seen_count c.self.inside.words.items c.self.inside.slots.items c.args.self.now c.self.view_is in
    let there = got c.self.inside.slots.items c.self.inside.slots.items c.args.place s refl c.index.ensures (omega (arith, c.requires, count)) in
    let seen = ap (λ l. slice_get l c.args.place) (sym c.self.view_is) ∙ seen_at c.self.inside.words.items c.self.inside.slots.items c.args.place s there in
    on_ok c.push-2.result (λ pushed held found. pushed ∙ ap (λ (h : Held). c.args.anew.now ++ h ∷ [])
    (ap (held_by s.pending) (c.region.ensures ∙ ap (words_at s.at s.count) c.as_slice.ensures.value)
    ∙ other_kept c.args.self.now c.args.variable c.args.place (Words c.args.words.now) (held_by s.pending (words_at s.at s.count c.self.inside.words.items)) held c.if-place-variable.false seen found)) c.push-2.ensures
