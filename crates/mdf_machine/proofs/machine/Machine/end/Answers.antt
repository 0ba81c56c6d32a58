use Rattle.std.proofs.Common.{◌≡◌, ◌∷◌, refl, sym, ap, ap₂, subst, ◌∙◌}
use Rattle.mdf_actor.specs.declared.status.ActorStatus.TheVariants as status
use Rattle.mdf_code.specs.declared.raw.RawImage.{RawImage}
use Rattle.mdf_core.specs.declared.status.MachineStatus.TheVariants.{Going}
use Rattle.mdf_core.specs.Enabled.{MayEnd}
use Rattle.mdf_core.specs.Events.{End}
use Rattle.mdf_core.specs.Steps.{Log, after}
use Rattle.mdf_core.specs.Worlds.{Job}
use Rattle.mdf_vm.specs.declared.frame.Ended.{Ended}
use Rattle.mdf_vm.specs.Ends.{ended_of}
use Rattle.mdf_machine.specs.declared.parts.Parts.{Parts}
use Rattle.mdf_machine.specs.Courses.{Course, then, world_of}
use Rattle.mdf_machine.specs.Ending.{ComesToAnEnd}
use Rattle.mdf_machine.specs.Internal.Ending.{finished, left_at_end, with_known_if}
use Rattle.mdf_machine.specs.Internal.Happened.{ending_of}
use Rattle.mdf_machine.specs.Internal.Held.{Kept}
use Rattle.mdf_machine.specs.Internal.Settling.{HasCaller}
use Rattle.mdf_machine.proofs.EndedActors.{ended_kept, finished_caller, frame_ending, may_end}
use Rattle.mdf_machine.proofs.Giving.{has_caller}
use Rattle.mdf_machine.proofs.Seen.{result_some, running_there}
use Rattle.mdf_machine.proofs.machine.Machine.end.Goals as goal

pub left_at_end-known-requires-clause-result : goal.left_at_end-known-requires-clause-result
left_at_end-known-requires-clause-result c =
    let job : Job = record { image = c.self.inside.image; input = c.self.inside.input; budget = c.self.inside.budget } in
    let p = c.self.inside.parts in
    let k = c.self.invariant in
    let ends = subst (λ (o : Course). ComesToAnEnd o.job (world_of o) c.args.actor c.args.turns c.args.frame) (sym c.self.view_is) c.requires.ends in
    result_some job (after job c.self.inside.history) p k.holds c.args.actor ends.stops.there

pub finish-requires-clause-status : goal.finish-requires-clause-status
finish-requires-clause-status c =
    let job : Job = record { image = c.self.inside.image; input = c.self.inside.input; budget = c.self.inside.budget } in
    let p = c.self.inside.parts in
    let k = c.self.invariant in
    let ends = subst (λ (o : Course). ComesToAnEnd o.job (world_of o) c.args.actor c.args.turns c.args.frame) (sym c.self.view_is) c.requires.ends in
    running_there job (after job c.self.inside.history) p k.holds c.args.actor ends.stops.there status.Running ends.stops.running refl

pub settle_if-requires-clause-caller : goal.settle_if-requires-clause-caller
settle_if-requires-clause-caller c =
    let job : Job = record { image = c.self.inside.image; input = c.self.inside.input; budget = c.self.inside.budget } in
    let p = c.self.inside.parts in
    let k = c.self.invariant in
    let ends = subst (λ (o : Course). ComesToAnEnd o.job (world_of o) c.args.actor c.args.turns c.args.frame) (sym c.self.view_is) c.requires.ends in
    let called = has_caller job c.self.inside.history p k c.args.actor ends.stops.there in
    subst (λ (q : Parts). HasCaller q c.args.actor) (sym c.finish.ensures)
    (finished_caller p c.args.actor c.in_ok-all.all c.finish-ended.result.trap c.finish-ended.result.lines (record { status = called.status; mark = called.mark }))

pub invariant_of-self-2 : goal.invariant_of-self-2
invariant_of-self-2 c =
    let job : Job = record { image = c.self.inside.image; input = c.self.inside.input; budget = c.self.inside.budget } in
    let p = c.self.inside.parts in
    let k = c.self.invariant in
    let ends = subst (λ (o : Course). ComesToAnEnd o.job (world_of o) c.args.actor c.args.turns c.args.frame) (sym c.self.view_is) c.requires.ends in
    let pushed : c.push.new.self ≡ End c.args.actor c.args.turns ends.ending c.args.frame.running.state ∷ c.self.inside.history =
    c.in_ok-push.ensures.ok ∙ ap (λ (x : Ended). End c.args.actor c.args.turns (ending_of x.trap x.line) x.state ∷ c.self.inside.history) c.finish-ended.ensures
    ∙ ap (λ ending. End c.args.actor c.args.turns ending c.args.frame.running.state ∷ c.self.inside.history) (frame_ending job (after job c.self.inside.history) c.args.actor c.args.turns c.args.frame ends) in
    let settled : c.settle_if.new.self ≡ with_known_if (finished p c.args.actor c.in_ok-all.all (ended_of c.args.frame).trap (ended_of c.args.frame).lines) c.args.actor (left_at_end c.self.inside.image p c.args.actor (ended_of c.args.frame).trap (ended_of c.args.frame).line) =
    c.settle_if.ensures ∙ ap₂ (λ (q : Parts) o. with_known_if q c.args.actor o) c.finish.ensures
    (c.left_at_end-known.ensures ∙ ap (λ (raw : RawImage). left_at_end raw p c.args.actor c.finish-ended.result.trap c.finish-ended.result.line) c.raw.ensures.parts)
    ∙ ap (λ (x : Ended). with_known_if (finished p c.args.actor c.in_ok-all.all x.trap x.lines) c.args.actor (left_at_end c.self.inside.image p c.args.actor x.trap x.line)) c.finish-ended.ensures in
    subst (λ (q : Parts). Kept job c.push.new.self q) (sym settled)
    (ended_kept job c.self.inside.history p c.args.actor c.args.turns c.args.frame k ends c.push.new.self c.in_ok-all.all pushed
    (subst (λ (o : Course). (world_of o).why ≡ Going) (sym c.self.view_is) c.requires.going) c.in_ok-all.ensures)

pub returns-clause-ok : goal.returns-clause-ok
returns-clause-ok c =
    let job : Job = record { image = c.self.inside.image; input = c.self.inside.input; budget = c.self.inside.budget } in
    let p = c.self.inside.parts in
    let k = c.self.invariant in
    let ends = subst (λ (o : Course). ComesToAnEnd o.job (world_of o) c.args.actor c.args.turns c.args.frame) (sym c.self.view_is) c.requires.ends in
    let pushed : c.push.new.self ≡ End c.args.actor c.args.turns ends.ending c.args.frame.running.state ∷ c.self.inside.history =
    c.in_ok-push.ensures.ok ∙ ap (λ (x : Ended). End c.args.actor c.args.turns (ending_of x.trap x.line) x.state ∷ c.self.inside.history) c.finish-ended.ensures
    ∙ ap (λ ending. End c.args.actor c.args.turns ending c.args.frame.running.state ∷ c.self.inside.history) (frame_ending job (after job c.self.inside.history) c.args.actor c.args.turns c.args.frame ends) in (
      ends.ending,
      c.args.frame.running.state,
      subst (λ (o : Course). MayEnd o.job (world_of o) c.args.actor c.args.turns ends.ending c.args.frame.running.state) c.self.view_is (may_end job (after job c.self.inside.history) c.args.actor c.args.turns c.args.frame ends),
      ap (λ (log : Log). record { job = job; log = log }) pushed ∙ ap (then (End c.args.actor c.args.turns ends.ending c.args.frame.running.state)) c.self.view_is,
    )
