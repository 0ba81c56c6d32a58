use Rattle.std.proofs.Common.{◌≡◌, ◌<◌, ◌≤◌, get_or, length, ap, subst, sym, ◌∙◌}
use Rattle.std.proofs.lemmas.Option.{slice_get-get_or, slice_get_past}
use Rattle.mpl_body_code.specs.Machine.{held}
use Rattle.mpl_body_run.specs.SeenItems.{arg_seen}
use Rattle.mpl_body_run.proofs.SlotLists.{held_seen, seen_or}
use Rattle.mpl_body_run.proofs.stack.Slots.get.Goals as goal

pub returns-in-Some : goal.returns-in-Some
returns-in-Some c =
    let all = c.self.inside.items.items in
    let n = c.args.number in
    let x = c.in-Some.item.now in
    let same : c.deref.result.now ≡ all = c.deref.ensures.value in
    ap (held n) (sym c.self.view_is)
    ∙ held_seen all n
    ∙ ap seen_or (slice_get-get_or all n x (subst (λ xs. n < length xs) same c.in-Some.ensures.lookup.3.0))
    ∙ ap arg_seen (sym (c.in-Some.ensures.lookup.1 ∙ ap (λ xs. get_or xs n x) same))

pub returns-in-None : goal.returns-in-None
returns-in-None c =
    let all = c.self.inside.items.items in
    let n = c.args.number in
    let same : c.deref.result.now ≡ all = c.deref.ensures.value in
    ap (held n) (sym c.self.view_is) ∙ held_seen all n ∙ ap seen_or (slice_get_past all n (subst (λ xs. length xs ≤ n) same c.in-None.ensures.lookup.3))
