use Rattle.std.proofs.Common.{◌≡◌, ◌<◌, Some, sym, subst, ◌∙◌, arith}
use Rattle.mdf_code.specs.Alone.{Pending}
use Rattle.mdf_code.specs.Frames.{Replies}
use Rattle.mdf_code.specs.Told.{Stands}
use Rattle.mdf_core.specs.declared.status.MachineStatus.TheVariants.{Going}
use Rattle.mdf_core.specs.Enabled.{Stops}
use Rattle.mdf_core.specs.Steps.{after}
use Rattle.mdf_core.specs.Worlds.{Job}
use Rattle.mdf_core.proofs.Fates.{gives_open}
use Rattle.mdf_machine.specs.declared.parts.Parts.{Parts}
use Rattle.mdf_machine.specs.Courses.{Course, world_of}
use Rattle.mdf_machine.specs.Internal.Held.{Kept}
use Rattle.mdf_machine.proofs.PassedOn.{forwarded_kept, gives_call, may_forward}
use Rattle.mdf_machine.proofs.Seen.{child_is, result_some}
use Rattle.mdf_machine.proofs.machine.Machine.give_result.Goals as goal

pub unreachable-requires : goal.unreachable-requires
unreachable-requires c =
    let job : Job = record { image = c.self.inside.image; input = c.self.inside.input; budget = c.self.inside.budget } in
    let p = c.self.inside.parts in
    let k = c.self.invariant in
    let stops = subst (λ (o : Course). Stops o.job (world_of o) c.args.actor c.args.turns (Stands (Replies (Pending c.args.call)))) (sym c.self.view_is) c.requires.stops in
    let call = gives_call job c.self.inside.history p k c.args.actor c.args.turns c.args.call stops in
    cc (sym call.is ∙ sym (child_is job (after job c.self.inside.history) p k.holds c.args.actor c.args.call stops.stops.there) ∙ sym c.child.ensures ∙ c.in_default.is)

pub forward-requires-clause-other : goal.forward-requires-clause-other
forward-requires-clause-other c =
    let job : Job = record { image = c.self.inside.image; input = c.self.inside.input; budget = c.self.inside.budget } in
    let p = c.self.inside.parts in
    let k = c.self.invariant in
    let stops = subst (λ (o : Course). Stops o.job (world_of o) c.args.actor c.args.turns (Stands (Replies (Pending c.args.call)))) (sym c.self.view_is) c.requires.stops in
    let call = gives_call job c.self.inside.history p k c.args.actor c.args.turns c.args.call stops in
    let same : call.child ≡ c.in-Some.child = cc (sym call.is ∙ sym (child_is job (after job c.self.inside.history) p k.holds c.args.actor c.args.call stops.stops.there) ∙ sym c.child.ensures ∙ c.in-Some.is) in
    λ e. absurd (omega (arith, call.newer, same, e))

pub forward-requires-clause-child : goal.forward-requires-clause-child
forward-requires-clause-child c =
    let job : Job = record { image = c.self.inside.image; input = c.self.inside.input; budget = c.self.inside.budget } in
    let p = c.self.inside.parts in
    let k = c.self.invariant in
    let stops = subst (λ (o : Course). Stops o.job (world_of o) c.args.actor c.args.turns (Stands (Replies (Pending c.args.call)))) (sym c.self.view_is) c.requires.stops in
    let call = gives_call job c.self.inside.history p k c.args.actor c.args.turns c.args.call stops in
    let same : call.child ≡ c.in-Some.child = cc (sym call.is ∙ sym (child_is job (after job c.self.inside.history) p k.holds c.args.actor c.args.call stops.stops.there) ∙ sym c.child.ensures ∙ c.in-Some.is) in
    result_some job (after job c.self.inside.history) p k.holds c.in-Some.child (subst (λ n. n < (after job c.self.inside.history).count) same call.there)

pub forward-requires-clause-may : goal.forward-requires-clause-may
forward-requires-clause-may c =
    let job : Job = record { image = c.self.inside.image; input = c.self.inside.input; budget = c.self.inside.budget } in
    let p = c.self.inside.parts in
    let k = c.self.invariant in
    let stops = subst (λ (o : Course). Stops o.job (world_of o) c.args.actor c.args.turns (Stands (Replies (Pending c.args.call)))) (sym c.self.view_is) c.requires.stops in
    may_forward job (after job c.self.inside.history) p k.holds c.args.actor c.in-Some.child stops.stops.there (gives_open job c.self.inside.history c.args.actor c.args.turns (Pending c.args.call) k.is_log stops)

pub invariant_of-self-2 : goal.invariant_of-self-2
invariant_of-self-2 c =
    let job : Job = record { image = c.self.inside.image; input = c.self.inside.input; budget = c.self.inside.budget } in
    let p = c.self.inside.parts in
    let k = c.self.invariant in
    let stops = subst (λ (o : Course). Stops o.job (world_of o) c.args.actor c.args.turns (Stands (Replies (Pending c.args.call)))) (sym c.self.view_is) c.requires.stops in
    let found : ((after job c.self.inside.history).actors c.args.actor).child c.args.call ≡ Some c.in-Some.child = sym (child_is job (after job c.self.inside.history) p k.holds c.args.actor c.args.call stops.stops.there) ∙ sym c.child.ensures ∙ c.in-Some.is in
    subst (λ (q : Parts). Kept job c.push.new.self (record q { turns = c.in_ok-all.all })) (sym c.in_default-forward.ensures.ok)
    (forwarded_kept job c.self.inside.history p c.args.actor c.args.turns c.args.call c.in-Some.child k stops found c.push.new.self c.in_ok-all.all c.in_ok-push.ensures.ok
    (subst (λ (o : Course). (world_of o).why ≡ Going) (sym c.self.view_is) c.requires.going) c.in_ok-all.ensures)
