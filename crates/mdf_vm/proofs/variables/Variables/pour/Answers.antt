use Rattle.std.proofs.Common.{◌<◌, ap, ap₂, arith, drop, get_or, length, refl, sym, take, ◌+◌, ◌++◌, ◌∙◌}
use Rattle.std.proofs.lemmas.List.{length-set}
use Rattle.std.proofs.lemmas.Option.{get_or_from_slice_get, slice_get-get_or}
use Rattle.mdf_code.specs.Alone.{Pending}
use Rattle.mdf_vm.specs.Internal.Pouring.{all_poured, poured}
use Rattle.mdf_vm.proofs.Laid.{seen_count}
use Rattle.mdf_vm.proofs.Poured.{poured_more}
use Rattle.mdf_vm.proofs.variables.Variables.pour.Goals as goal

pub loop-place-preserved : goal.loop-place-preserved
loop-place-preserved c =
    let now = c.loop-place.self in
    let place = c.loop-place.place in
    let rest = c.loop-place.rest.now in
    let old = get_or now place (Pending 0) in
    let count = seen_count c.self.inside.words.items c.self.inside.slots.items c.args.self.now c.self.view_is in
    let within : place < length now = omega (arith, c.loop-place-test.true, ap length c.as_slice-count.ensures.value, count, c.loop-place.invariant.1) in
    let there = slice_get-get_or now place (Pending 0) within in
    let is = c.pour_into-rest.ensures.held old there in (
      ap₂ (λ l r. take (place + 1) l ++ all_poured (drop (place + 1) l) r) is (c.pour_into-rest.ensures.left old there)
          ∙ poured_more now c.args.self.now c.args.words.now rest place old (poured old rest) within (sym (get_or_from_slice_get now place old old there)) c.loop-place.invariant.0 refl,
      ap length is ∙ (length-set now place (poured old rest) ∙ c.loop-place.invariant.1),
    )
