use Rattle.std.proofs.Common.{◌-◌, sym, ap, ◌∙◌, arith, slice_get}
use Rattle.mdf_core.specs.DriveList.{items}
use Rattle.mdf_core.specs.Worlds.{Job}
use Rattle.mdf_order.specs.InOrder.{serials_in}
use Rattle.mdf_machine.specs.Courses.{Course, world_of}
use Rattle.mdf_machine.proofs.Enabling.{actor_item, actor_there, few_items, no_item, token_item}
use Rattle.mdf_machine.proofs.machine.Machine.item.Goals as goal

pub overflow_cast-due : goal.overflow_cast-due
overflow_cast-due c =
    let job : Job = record { image = c.self.inside.image; input = c.self.inside.input; budget = c.self.inside.budget } in
    record { fits = omega (arith, c.due_len-due.ensures, few_items job c.self.inside.history c.self.inside.parts c.self.invariant) }

pub returns-then-place-due : goal.returns-then-place-due
returns-then-place-due c =
    let job : Job = record { image = c.self.inside.image; input = c.self.inside.input; budget = c.self.inside.budget } in
    let k = c.self.invariant in
    token_item job c.self.inside.history c.self.inside.parts c.args.place k (sym k.holds.why ∙ c.in-Going.is) (omega (arith, c.if-place-due.true, c.due_len-due.ensures))
    ∙ ap (λ (o : Course). slice_get (items o.job (world_of o)) c.args.place) c.self.view_is

pub returns-in_default-nth : goal.returns-in_default-nth
returns-in_default-nth c =
    let job : Job = record { image = c.self.inside.image; input = c.self.inside.input; budget = c.self.inside.budget } in
    let p = c.self.inside.parts in
    let k = c.self.invariant in
    no_item job c.self.inside.history p c.args.place k (sym k.holds.why ∙ c.in-Going.is) (omega (arith, c.if-place-due.false, c.due_len-due.ensures))
    (ap (λ n. slice_get (serials_in p.going) (c.args.place - n)) (sym c.due_len-due.ensures) ∙ sym c.nth.ensures ∙ c.in_default-nth.is)
    ∙ ap (λ (o : Course). slice_get (items o.job (world_of o)) c.args.place) c.self.view_is

pub next-requires : goal.next-requires
next-requires c =
    let job : Job = record { image = c.self.inside.image; input = c.self.inside.input; budget = c.self.inside.budget } in
    let p = c.self.inside.parts in
    let k = c.self.invariant in
    omega (
      arith,
      k.holds.statuses.length_is,
      actor_there job c.self.inside.history p c.args.place k (sym k.holds.why ∙ c.in-Going.is) c.in-Some.actor
          (ap (λ n. slice_get (serials_in p.going) (c.args.place - n)) (sym c.due_len-due.ensures) ∙ sym c.nth.ensures ∙ c.in-Some.is),
    )

pub returns : goal.returns
returns c =
    let job : Job = record { image = c.self.inside.image; input = c.self.inside.input; budget = c.self.inside.budget } in
    let p = c.self.inside.parts in
    let k = c.self.invariant in
    actor_item job c.self.inside.history p c.args.place k (sym k.holds.why ∙ c.in-Going.is) (omega (arith, c.if-place-due.false, c.due_len-due.ensures)) c.in-Some.actor
    (ap (λ n. slice_get (serials_in p.going) (c.args.place - n)) (sym c.due_len-due.ensures) ∙ sym c.nth.ensures ∙ c.in-Some.is) c.next.result c.next.ensures
    ∙ ap (λ (o : Course). slice_get (items o.job (world_of o)) c.args.place) c.self.view_is
