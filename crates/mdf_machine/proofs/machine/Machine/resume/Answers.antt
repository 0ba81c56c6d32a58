use Rattle.std.proofs.Common.{◌≡◌, ◌<◌, ℕ, Some, None, refl, sym, ap, subst, ◌∙◌}
use Rattle.mdf_actor.specs.declared.status.ActorStatus.TheVariants as status
use Rattle.mdf_core.specs.declared.status.MachineStatus.TheVariants.{Going}
use Rattle.mdf_core.specs.Events.{Resume}
use Rattle.mdf_core.specs.Steps.{Log, after}
use Rattle.mdf_core.specs.Worlds.{Job, known_at}
use Rattle.mdf_vm.specs.declared.frame.Frame.{Frame}
use Rattle.mdf_machine.specs.declared.parts.Parts.{Parts}
use Rattle.mdf_machine.specs.Answers.{MayGoOn, StandsThere}
use Rattle.mdf_machine.specs.Courses.{Course, then, world_of}
use Rattle.mdf_machine.specs.Internal.Held.{Kept}
use Rattle.mdf_machine.proofs.Parking.{resume_kept, stays_parked}
use Rattle.mdf_machine.proofs.Seen.{frame_there, is_unknown_there, parked_child, result_some, status_is, value_there}
use Rattle.mdf_machine.proofs.machine.Machine.resume.Goals as goal

pub state-requires : goal.state-requires
state-requires c =
    let job : Job = record { image = c.self.inside.image; input = c.self.inside.input; budget = c.self.inside.budget } in
    let p = c.self.inside.parts in
    let k = c.self.invariant in
    let there : c.args.actor < (after job c.self.inside.history).count = subst (λ (o : Course). c.args.actor < (world_of o).count) (sym c.self.view_is) c.requires.there in
    let parked : ((after job c.self.inside.history).actors c.args.actor).status ≡ status.Parked c.in-Parked.child = sym (status_is job (after job c.self.inside.history) p k.holds c.args.actor c.status-status.result c.status-status.ensures) ∙ c.in-Parked.is in
    let child : c.in-Parked.child < (after job c.self.inside.history).count = parked_child job c.self.inside.history k.is_log c.args.actor c.in-Parked.child parked in
    result_some job (after job c.self.inside.history) p k.holds c.in-Parked.child child

pub returns-in_default-state : goal.returns-in_default-state
returns-in_default-state c =
    let job : Job = record { image = c.self.inside.image; input = c.self.inside.input; budget = c.self.inside.budget } in
    let p = c.self.inside.parts in
    let k = c.self.invariant in
    let parked : ((after job c.self.inside.history).actors c.args.actor).status ≡ status.Parked c.in-Parked.child = sym (status_is job (after job c.self.inside.history) p k.holds c.args.actor c.status-status.result c.status-status.ensures) ∙ c.in-Parked.is in
    let child : c.in-Parked.child < (after job c.self.inside.history).count = parked_child job c.self.inside.history k.is_log c.args.actor c.in-Parked.child parked in
    let none : known_at (after job c.self.inside.history) (Some c.in-Parked.child) ≡ None = is_unknown_there job (after job c.self.inside.history) p k.holds c.in-Parked.child c.state.result child c.state.ensures c.in_default-state.not-Known in
    record {
      ok = (
        subst (λ (o : Course). ((world_of o).actors c.args.actor).status ≡ status.Parked c.in-Parked.child) c.self.view_is parked,
        subst (λ (o : Course). MayGoOn (world_of o) c.args.actor → ⊥) c.self.view_is (stays_parked (after job c.self.inside.history) c.args.actor c.in-Parked.child parked none),
        refl,
      );
      err = tt;
    }

pub unreachable-requires : goal.unreachable-requires
unreachable-requires c =
    let job : Job = record { image = c.self.inside.image; input = c.self.inside.input; budget = c.self.inside.budget } in
    let p = c.self.inside.parts in
    let k = c.self.invariant in
    let there : c.args.actor < (after job c.self.inside.history).count = subst (λ (o : Course). c.args.actor < (world_of o).count) (sym c.self.view_is) c.requires.there in
    let parked : ((after job c.self.inside.history).actors c.args.actor).status ≡ status.Parked c.in-Parked.child = sym (status_is job (after job c.self.inside.history) p k.holds c.args.actor c.status-status.result c.status-status.ensures) ∙ c.in-Parked.is in
    let child : c.in-Parked.child < (after job c.self.inside.history).count = parked_child job c.self.inside.history k.is_log c.args.actor c.in-Parked.child parked in
    let value = value_there job (after job c.self.inside.history) p k.holds c.in-Parked.child c.state.result child c.state.ensures c.in-Known.is in
    let may : MayGoOn (after job c.self.inside.history) c.args.actor = record { child = c.in-Parked.child; parked = parked; known = value.0; is = value.1 } in
    let put = frame_there job (after job c.self.inside.history) p k.holds c.args.actor c.in-Parked.child there parked in
    cc (sym put.is ∙ sym c.take_out.ensures.frame ∙ c.in_default-take_out.is)

pub invariant_of-self-2 : goal.invariant_of-self-2
invariant_of-self-2 c =
    let job : Job = record { image = c.self.inside.image; input = c.self.inside.input; budget = c.self.inside.budget } in
    let p = c.self.inside.parts in
    let k = c.self.invariant in
    let there : c.args.actor < (after job c.self.inside.history).count = subst (λ (o : Course). c.args.actor < (world_of o).count) (sym c.self.view_is) c.requires.there in
    let parked : ((after job c.self.inside.history).actors c.args.actor).status ≡ status.Parked c.in-Parked.child = sym (status_is job (after job c.self.inside.history) p k.holds c.args.actor c.status-status.result c.status-status.ensures) ∙ c.in-Parked.is in
    let child : c.in-Parked.child < (after job c.self.inside.history).count = parked_child job c.self.inside.history k.is_log c.args.actor c.in-Parked.child parked in
    let value = value_there job (after job c.self.inside.history) p k.holds c.in-Parked.child c.state.result child c.state.ensures c.in-Known.is in
    let may : MayGoOn (after job c.self.inside.history) c.args.actor = record { child = c.in-Parked.child; parked = parked; known = value.0; is = value.1 } in
    let put = frame_there job (after job c.self.inside.history) p k.holds c.args.actor c.in-Parked.child there parked in
    subst (λ (q : Parts). Kept job c.push.new.self q) (sym c.take_out.ensures.rest)
    (resume_kept job c.self.inside.history c.push.new.self p c.args.actor k c.in_ok-push.ensures.ok (subst (λ (o : Course). (world_of o).why ≡ Going) (sym c.self.view_is) c.requires.going) there may)

pub returns-clause-ok : goal.returns-clause-ok
returns-clause-ok c =
    let job : Job = record { image = c.self.inside.image; input = c.self.inside.input; budget = c.self.inside.budget } in
    let p = c.self.inside.parts in
    let k = c.self.invariant in
    let there : c.args.actor < (after job c.self.inside.history).count = subst (λ (o : Course). c.args.actor < (world_of o).count) (sym c.self.view_is) c.requires.there in
    let parked : ((after job c.self.inside.history).actors c.args.actor).status ≡ status.Parked c.in-Parked.child = sym (status_is job (after job c.self.inside.history) p k.holds c.args.actor c.status-status.result c.status-status.ensures) ∙ c.in-Parked.is in
    let child : c.in-Parked.child < (after job c.self.inside.history).count = parked_child job c.self.inside.history k.is_log c.args.actor c.in-Parked.child parked in
    let value = value_there job (after job c.self.inside.history) p k.holds c.in-Parked.child c.state.result child c.state.ensures c.in-Known.is in
    let may : MayGoOn (after job c.self.inside.history) c.args.actor = record { child = c.in-Parked.child; parked = parked; known = value.0; is = value.1 } in
    let put = frame_there job (after job c.self.inside.history) p k.holds c.args.actor c.in-Parked.child there parked in
    let same : put.frame ≡ c.in-Some.frame = cc (sym put.is ∙ sym c.take_out.ensures.frame ∙ c.in-Some.is) in (
      subst (λ (o : Course). MayGoOn (world_of o) c.args.actor) c.self.view_is may,
      subst (λ (o : Course). StandsThere o c.args.actor c.in-Some.frame) c.self.view_is (subst (λ (f : Frame). StandsThere (record { job = job; log = c.self.inside.history }) c.args.actor f) same (record { stood = put.stood; stands = put.stands })),
      ap (λ (log : Log). record { job = job; log = log }) c.in_ok-push.ensures.ok ∙ ap (then (Resume c.args.actor)) c.self.view_is,
    )
