use Rattle.std.proofs.Common.{◌<◌, [], ◌∷◌, ◌++◌, ap, arith, get_or, length, set, sym, ◌∙◌}
use Rattle.std.proofs.lemmas.List.{length-set, take_more}
use Rattle.std.proofs.lemmas.Option.{slice_get-get_or}
use Rattle.mdf_code.specs.Alone.{Held, Pending, Words}
use Rattle.mdf_vm.proofs.Laid.{seen_count}
use Rattle.mdf_vm.proofs.variables.Variables.anew.Goals as goal

pub loop-place-preserved : goal.loop-place-preserved
loop-place-preserved c =
    let changed = set c.args.self.now c.args.variable (Words c.args.words.now) in
    let place = c.loop-place.place in
    let held = get_or changed place (Pending 0) in
    let count = seen_count c.self.inside.words.items c.self.inside.slots.items c.args.self.now c.self.view_is in
    let within : place < length changed = omega (arith, c.loop-place-test.true, ap length c.as_slice-count.ensures.value, count, length-set c.args.self.now c.args.variable (Words c.args.words.now)) in
    c.in_ok-lay.ensures held (slice_get-get_or changed place (Pending 0) within)
    ∙ (ap (λ l. l ++ held ∷ []) c.loop-place.invariant ∙ sym (take_more changed place (Pending 0) within))
