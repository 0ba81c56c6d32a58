use Rattle.std.proofs.Common.{◌≡◌, ◌<◌, ℕ, Some, None, refl, sym, ap, subst, ◌∙◌, arith}
use Rattle.mdf_code.specs.Alone.{Pending}
use Rattle.mdf_code.specs.Frames.{Needs}
use Rattle.mdf_code.specs.Told.{Stands}
use Rattle.mdf_core.specs.declared.status.MachineStatus.TheVariants.{Going}
use Rattle.mdf_core.specs.Events.{Park}
use Rattle.mdf_core.specs.Steps.{Log, after}
use Rattle.mdf_core.specs.Worlds.{Job, known_at}
use Rattle.mdf_actor.specs.declared.status.ActorStatus.TheVariants as status
use Rattle.mdf_machine.specs.declared.parts.Parts.{Parts}
use Rattle.mdf_machine.specs.Courses.{Course, then, world_of}
use Rattle.mdf_machine.specs.Frames.{IsFrameAt}
use Rattle.mdf_machine.specs.Internal.Held.{Kept}
use Rattle.mdf_machine.proofs.Parking.{park_kept}
use Rattle.mdf_machine.proofs.Seen.{child_is, child_there, is_known_there, is_unknown_there, needs_call, result_some, running_there}
use Rattle.mdf_machine.proofs.machine.Machine.park.Goals as goal

pub unreachable-requires : goal.unreachable-requires
unreachable-requires c =
    let job : Job = record { image = c.self.inside.image; input = c.self.inside.input; budget = c.self.inside.budget } in
    let p = c.self.inside.parts in
    let k = c.self.invariant in
    let at = subst (λ (o : Course). IsFrameAt o.job (world_of o) c.args.actor c.args.turns (Stands (Needs (Pending c.args.call))) c.args.frame) (sym c.self.view_is) c.requires.stops in
    let need = needs_call job c.self.inside.history p k c.args.actor c.args.turns c.args.call at.stood at.stops at.is in
    cc (sym need.is ∙ sym (child_is job (after job c.self.inside.history) p k.holds c.args.actor c.args.call at.stops.there) ∙ sym c.child.ensures ∙ c.in_default.is)

pub state-requires : goal.state-requires
state-requires c =
    let job : Job = record { image = c.self.inside.image; input = c.self.inside.input; budget = c.self.inside.budget } in
    let p = c.self.inside.parts in
    let k = c.self.invariant in
    let at = subst (λ (o : Course). IsFrameAt o.job (world_of o) c.args.actor c.args.turns (Stands (Needs (Pending c.args.call))) c.args.frame) (sym c.self.view_is) c.requires.stops in
    let need = needs_call job c.self.inside.history p k c.args.actor c.args.turns c.args.call at.stood at.stops at.is in
    let found : ((after job c.self.inside.history).actors c.args.actor).child c.args.call ≡ Some c.in-Some.child = sym (child_is job (after job c.self.inside.history) p k.holds c.args.actor c.args.call at.stops.there) ∙ sym c.child.ensures ∙ c.in-Some.is in
    let there : c.in-Some.child < (after job c.self.inside.history).count = (child_there job c.self.inside.history k.is_log c.args.actor c.args.call c.in-Some.child found).there in
    result_some job (after job c.self.inside.history) p k.holds c.in-Some.child there

pub returns-in-Known-clause-ok : goal.returns-in-Known-clause-ok
returns-in-Known-clause-ok c =
    let job : Job = record { image = c.self.inside.image; input = c.self.inside.input; budget = c.self.inside.budget } in
    let p = c.self.inside.parts in
    let k = c.self.invariant in
    let at = subst (λ (o : Course). IsFrameAt o.job (world_of o) c.args.actor c.args.turns (Stands (Needs (Pending c.args.call))) c.args.frame) (sym c.self.view_is) c.requires.stops in
    let need = needs_call job c.self.inside.history p k c.args.actor c.args.turns c.args.call at.stood at.stops at.is in
    let found : ((after job c.self.inside.history).actors c.args.actor).child c.args.call ≡ Some c.in-Some.child = sym (child_is job (after job c.self.inside.history) p k.holds c.args.actor c.args.call at.stops.there) ∙ sym c.child.ensures ∙ c.in-Some.is in
    let there : c.in-Some.child < (after job c.self.inside.history).count = (child_there job c.self.inside.history k.is_log c.args.actor c.args.call c.in-Some.child found).there in (
      refl,
      (λ none. is_known_there job (after job c.self.inside.history) p k.holds c.in-Some.child c.state.result there c.state.ensures c.in-Known.is
          (ap (known_at (after job c.self.inside.history)) (sym found) ∙ subst (λ (o : Course). known_at (world_of o) (((world_of o).actors c.args.actor).child c.args.call) ≡ None) (sym c.self.view_is) none)),
      refl,
    )

pub put_away-requires : goal.put_away-requires
put_away-requires c =
    let job : Job = record { image = c.self.inside.image; input = c.self.inside.input; budget = c.self.inside.budget } in
    let p = c.self.inside.parts in
    let k = c.self.invariant in
    let at = subst (λ (o : Course). IsFrameAt o.job (world_of o) c.args.actor c.args.turns (Stands (Needs (Pending c.args.call))) c.args.frame) (sym c.self.view_is) c.requires.stops in
    let need = needs_call job c.self.inside.history p k c.args.actor c.args.turns c.args.call at.stood at.stops at.is in
    record {
      status = running_there job (after job c.self.inside.history) p k.holds c.args.actor at.stops.there status.Running at.stops.running refl;
      row = omega (arith, at.stops.there, k.holds.rows.length_is);
      mark = omega (arith, at.stops.there, k.holds.going.length_is);
    }

pub invariant_of-self-2 : goal.invariant_of-self-2
invariant_of-self-2 c =
    let job : Job = record { image = c.self.inside.image; input = c.self.inside.input; budget = c.self.inside.budget } in
    let p = c.self.inside.parts in
    let k = c.self.invariant in
    let at = subst (λ (o : Course). IsFrameAt o.job (world_of o) c.args.actor c.args.turns (Stands (Needs (Pending c.args.call))) c.args.frame) (sym c.self.view_is) c.requires.stops in
    let need = needs_call job c.self.inside.history p k c.args.actor c.args.turns c.args.call at.stood at.stops at.is in
    let found : ((after job c.self.inside.history).actors c.args.actor).child c.args.call ≡ Some c.in-Some.child = sym (child_is job (after job c.self.inside.history) p k.holds c.args.actor c.args.call at.stops.there) ∙ sym c.child.ensures ∙ c.in-Some.is in
    let there : c.in-Some.child < (after job c.self.inside.history).count = (child_there job c.self.inside.history k.is_log c.args.actor c.args.call c.in-Some.child found).there in
    let unknown : known_at (after job c.self.inside.history) (Some c.in-Some.child) ≡ None = is_unknown_there job (after job c.self.inside.history) p k.holds c.in-Some.child c.state.result there c.state.ensures c.in_default-state.not-Known in
    subst (λ (q : Parts). Kept job c.push.new.self q) (sym c.put_away.ensures)
    (park_kept job c.self.inside.history c.push.new.self p c.args.actor c.args.turns c.args.call c.in-Some.child c.in_ok-all.all c.args.frame k c.in_ok-push.ensures.ok
    (subst (λ (o : Course). (world_of o).why ≡ Going) (sym c.self.view_is) c.requires.going) at found unknown c.in_ok-all.ensures)

pub returns : goal.returns
returns c =
    let job : Job = record { image = c.self.inside.image; input = c.self.inside.input; budget = c.self.inside.budget } in
    let p = c.self.inside.parts in
    let k = c.self.invariant in
    let at = subst (λ (o : Course). IsFrameAt o.job (world_of o) c.args.actor c.args.turns (Stands (Needs (Pending c.args.call))) c.args.frame) (sym c.self.view_is) c.requires.stops in
    let need = needs_call job c.self.inside.history p k c.args.actor c.args.turns c.args.call at.stood at.stops at.is in
    let found : ((after job c.self.inside.history).actors c.args.actor).child c.args.call ≡ Some c.in-Some.child = sym (child_is job (after job c.self.inside.history) p k.holds c.args.actor c.args.call at.stops.there) ∙ sym c.child.ensures ∙ c.in-Some.is in
    let there : c.in-Some.child < (after job c.self.inside.history).count = (child_there job c.self.inside.history k.is_log c.args.actor c.args.call c.in-Some.child found).there in
    let unknown : known_at (after job c.self.inside.history) (Some c.in-Some.child) ≡ None = is_unknown_there job (after job c.self.inside.history) p k.holds c.in-Some.child c.state.result there c.state.ensures c.in_default-state.not-Known in
    record {
      ok = (
        subst (λ (o : Course). known_at (world_of o) (((world_of o).actors c.args.actor).child c.args.call) ≡ None) c.self.view_is (ap (known_at (after job c.self.inside.history)) found ∙ unknown),
        ap (λ (log : Log). record { job = job; log = log }) c.in_ok-push.ensures.ok ∙ ap (then (Park c.args.actor c.args.turns c.args.call)) c.self.view_is,
      );
      err = tt;
    }
