use Rattle.std.proofs.Common.{ap, sym, ◌∙◌}
use Rattle.std.specs.Prelude.{slice_get}
use Rattle.mpl_mean.specs.Plain.Scopes.{slot_named}
use Rattle.mpl_locals.proofs.Variables.{found_nowhere, found_there, not_named}
use Rattle.mpl_locals.proofs.locals.Locals.find.Goals as goal

pub returns-in-Some-local_at : goal.returns-in-Some-local_at
returns-in-Some-local_at c =
    let name = c.args.name.now in
    let items = c.self.inside.list.items in
    let n = c.in-Some.number in
    sym (found_there name items n (sym (c.self.invariant.0 name) ∙ sym c.find.ensures ∙ c.in-Some.is) c.in-Some-local_at.local
    (ap (λ xs. slice_get xs n) (sym c.as_slice.ensures.value) ∙ sym c.local_at.ensures ∙ c.in-Some-local_at.is)) ∙ ap (slot_named name) c.self.view_is

pub returns-in-None-local_at : goal.returns-in-None-local_at
returns-in-None-local_at c =
    let name = c.args.name.now in
    let items = c.self.inside.list.items in
    let n = c.in-Some.number in
    absurd (found_nowhere name items n (sym (c.self.invariant.0 name) ∙ sym c.find.ensures ∙ c.in-Some.is)
    (ap (λ xs. slice_get xs n) (sym c.as_slice.ensures.value) ∙ sym c.local_at.ensures ∙ c.in-None-local_at.is))

pub returns-in-None : goal.returns-in-None
returns-in-None c =
    let name = c.args.name.now in
    sym (not_named name c.self.inside.list.items (sym (c.self.invariant.0 name) ∙ sym c.find.ensures ∙ c.in-None.is)) ∙ ap (slot_named name) c.self.view_is
