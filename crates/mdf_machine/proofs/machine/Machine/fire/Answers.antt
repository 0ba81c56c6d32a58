use Rattle.std.proofs.Common.{◌≡◌, ◌<◌, ℕ, Some, None, refl, sym, ap, subst, ◌∙◌}
use Rattle.mpl_value.specs.declared.body.BodyStart.{BodyStart}
use Rattle.mdf_actor.specs.declared.status.ActorStatus.TheVariants as status
use Rattle.mdf_code.specs.Told.{first}
use Rattle.mdf_core.specs.declared.status.MachineStatus.TheVariants.{Going}
use Rattle.mdf_core.specs.Events.{Fire}
use Rattle.mdf_core.specs.Steps.{Log, after}
use Rattle.mdf_core.specs.Worlds.{Job}
use Rattle.mdf_machine.specs.declared.parts.Parts.{Parts}
use Rattle.mdf_machine.specs.Courses.{Course, then, world_of}
use Rattle.mdf_machine.specs.Frames.{Begins}
use Rattle.mdf_machine.specs.Internal.Held.{Kept}
use Rattle.mdf_machine.proofs.Parking.{fire_kept}
use Rattle.mdf_machine.proofs.Seen.{has_ports, start_is, status_is}
use Rattle.mdf_machine.proofs.machine.Machine.fire.Goals as goal

pub start-requires-clause-ports : goal.start-requires-clause-ports
start-requires-clause-ports c =
    let job : Job = record { image = c.self.inside.image; input = c.self.inside.input; budget = c.self.inside.budget } in
    let p = c.self.inside.parts in
    let k = c.self.invariant in
    let there : c.args.actor < (after job c.self.inside.history).count = subst (λ (o : Course). c.args.actor < (world_of o).count) (sym c.self.view_is) c.requires.there in
    let ready : ((after job c.self.inside.history).actors c.args.actor).status ≡ status.Ready = sym (status_is job (after job c.self.inside.history) p k.holds c.args.actor c.status-status.result c.status-status.ensures) ∙ c.in-Ready.is in
    has_ports job (after job c.self.inside.history) p k.holds c.args.actor there

pub invariant_of-self-2 : goal.invariant_of-self-2
invariant_of-self-2 c =
    let job : Job = record { image = c.self.inside.image; input = c.self.inside.input; budget = c.self.inside.budget } in
    let p = c.self.inside.parts in
    let k = c.self.invariant in
    let there : c.args.actor < (after job c.self.inside.history).count = subst (λ (o : Course). c.args.actor < (world_of o).count) (sym c.self.view_is) c.requires.there in
    let ready : ((after job c.self.inside.history).actors c.args.actor).status ≡ status.Ready = sym (status_is job (after job c.self.inside.history) p k.holds c.args.actor c.status-status.result c.status-status.ensures) ∙ c.in-Ready.is in
    subst (λ (q : Parts). Kept job c.push.new.self q) (sym c.begin.ensures)
    (fire_kept job c.self.inside.history c.push.new.self p c.args.actor c.in_ok-turns.turns c.in_ok-fired.fired k c.in_ok-push.ensures.ok (subst (λ (o : Course). (world_of o).why ≡ Going) (sym c.self.view_is) c.requires.going) there ready
    c.in_ok-turns.ensures c.in_ok-fired.ensures)

pub returns-clause-ok : goal.returns-clause-ok
returns-clause-ok c =
    let job : Job = record { image = c.self.inside.image; input = c.self.inside.input; budget = c.self.inside.budget } in
    let p = c.self.inside.parts in
    let k = c.self.invariant in
    let there : c.args.actor < (after job c.self.inside.history).count = subst (λ (o : Course). c.args.actor < (world_of o).count) (sym c.self.view_is) c.requires.there in
    let ready : ((after job c.self.inside.history).actors c.args.actor).status ≡ status.Ready = sym (status_is job (after job c.self.inside.history) p k.holds c.args.actor c.status-status.result c.status-status.ensures) ∙ c.in-Ready.is in
    let start : c.in_ok-start.start ≡ ((after job c.self.inside.history).actors c.args.actor).start = c.in_ok-start.ensures ∙ start_is job c.self.inside.history p k c.args.actor there ready in
    let begins : Begins job.image ((after job c.self.inside.history).actors c.args.actor).start c.in_ok-frame.frame = record {
      alone = c.in_ok-frame.ensures.alone ∙ ap (first job.image) start;
      object = c.in_ok-frame.ensures.object ∙ ap (λ (s : BodyStart). s.object) start;
      turns = c.in_ok-frame.ensures.turns;
      last = c.in_ok-frame.ensures.last;
    } in (
      subst (λ (o : Course). ((world_of o).actors c.args.actor).status ≡ status.Ready) c.self.view_is ready,
      subst (λ (o : Course). Begins o.job.image ((world_of o).actors c.args.actor).start c.in_ok-frame.frame) c.self.view_is begins,
      ap (λ (log : Log). record { job = job; log = log }) c.in_ok-push.ensures.ok ∙ ap (then (Fire c.args.actor)) c.self.view_is,
    )
