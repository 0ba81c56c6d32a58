use Rattle.std.proofs.Common.{◌≡◌, sym, subst, refl, ap, ◌∙◌, Some, None}
use Rattle.mdf_code.specs.Alone.{Pending}
use Rattle.mdf_code.specs.Frames.{Needs}
use Rattle.mdf_code.specs.Told.{Stands}
use Rattle.mdf_core.specs.declared.status.MachineStatus.TheVariants.{Going}
use Rattle.mdf_core.specs.Worlds.{known_at}
use Rattle.mdf_core.specs.Events.{Learn}
use Rattle.mdf_core.specs.Enabled.{Stops}
use Rattle.mdf_machine.specs.Courses.{Course, then, world_of}
use Rattle.mdf_machine.proofs.Keeping.{learn_kept}
use Rattle.mdf_machine.proofs.Seen.{known_of_call_is}
use Rattle.mdf_machine.proofs.machine.Machine.learn.Goals as goal

pub returns-in_default-clause-ok : goal.returns-in_default-clause-ok
returns-in_default-clause-ok c =
    let is = known_of_call_is _ c.self.inside.history c.self.inside.parts c.self.invariant c.args.actor c.args.call (subst (λ (o : Course). Stops o.job (world_of o) c.args.actor c.args.turns (Stands (Needs (Pending c.args.call)))) (sym c.self.view_is) c.requires.stops).stops.there in
    (subst (λ (o : Course). known_at (world_of o) (((world_of o).actors c.args.actor).child c.args.call) ≡ None) c.self.view_is (sym is ∙ sym c.in_ok-known.ensures ∙ c.in_default.is), refl)

pub invariant_of-self-2 : goal.invariant_of-self-2
invariant_of-self-2 c =
    let is = known_of_call_is _ c.self.inside.history c.self.inside.parts c.self.invariant c.args.actor c.args.call (subst (λ (o : Course). Stops o.job (world_of o) c.args.actor c.args.turns (Stands (Needs (Pending c.args.call)))) (sym c.self.view_is) c.requires.stops).stops.there in
    learn_kept _ c.self.inside.history _ c.self.inside.parts c.args.actor c.args.turns c.args.call c.in_ok-all.all c.in-Some.known c.self.invariant c.in_ok-push.ensures.ok
    (subst (λ (o : Course). (world_of o).why ≡ Going) (sym c.self.view_is) c.requires.going)
    (subst (λ (o : Course). Stops o.job (world_of o) c.args.actor c.args.turns (Stands (Needs (Pending c.args.call)))) (sym c.self.view_is) c.requires.stops) (sym is ∙ sym c.in_ok-known.ensures ∙ c.in-Some.is) c.in_ok-all.ensures

pub returns-clause-ok : goal.returns-clause-ok
returns-clause-ok c =
    let is = known_of_call_is _ c.self.inside.history c.self.inside.parts c.self.invariant c.args.actor c.args.call (subst (λ (o : Course). Stops o.job (world_of o) c.args.actor c.args.turns (Stands (Needs (Pending c.args.call)))) (sym c.self.view_is) c.requires.stops).stops.there in (
      subst (λ (o : Course). known_at (world_of o) (((world_of o).actors c.args.actor).child c.args.call) ≡ Some c.in-Some.known) c.self.view_is (sym is ∙ sym c.in_ok-known.ensures ∙ c.in-Some.is),
      ap (λ log. record { job = record { image = c.self.inside.image; input = c.self.inside.input; budget = c.self.inside.budget }; log = log }) c.in_ok-push.ensures.ok ∙ ap (then (Learn c.args.actor c.args.turns c.args.call)) c.self.view_is,
    )
