use Rattle.std.proofs.Common.{◌≡◌, ◌≤◌, ◌∷◌, map, refl, sym, ap, subst, ◌∙◌, arith, w64}
use Rattle.std.proofs.lemmas.Int.{to_z-of_z}
use Rattle.std.specs.Prelude.{IsSome}
use Rattle.std.specs.FinMap.{insert}
use Rattle.mdf_core.specs.declared.status.MachineStatus.TheVariants.{Going}
use Rattle.mdf_core.specs.Events.{Send}
use Rattle.mdf_core.specs.Steps.{Log, after}
use Rattle.mdf_core.specs.Worlds.{Job}
use Rattle.mdf_match.specs.Ports.{missing_in}
use Rattle.mdf_machine.specs.declared.parts.Parts.{Parts}
use Rattle.mdf_machine.specs.Courses.{Course, world_of}
use Rattle.mdf_machine.specs.MakingCalls.{Sends, StopsAtCall}
use Rattle.mdf_machine.specs.Internal.Happened.{held_of}
use Rattle.mdf_machine.specs.Internal.Held.{Kept}
use Rattle.mdf_machine.proofs.SentArcs.{passed_of}
use Rattle.mdf_machine.proofs.SentArguments.{held_so}
use Rattle.mdf_machine.proofs.SentParts.{few_args, given_args, many_args, may_add, open_still, parts_again, passed_args, sent_parts, short_args}
use Rattle.mdf_machine.proofs.SentWorlds.{send_kept}
use Rattle.mdf_machine.proofs.machine.Machine.send.Goals as goal

pub open_ports-requires-clause-few : goal.open_ports-requires-clause-few
open_ports-requires-clause-few c =
    let job : Job = record { image = c.self.inside.image; input = c.self.inside.input; budget = c.self.inside.budget } in
    let stops = subst (λ (o : Course). StopsAtCall o.job (world_of o) c.args.actor c.args.turns c.args.sent) (sym c.self.view_is) c.requires.stops in
    few_args job c.self.inside.history c.self.inside.parts c.args.actor c.args.turns c.args.sent c.self.invariant stops c.as_slice-2.result.now c.as_slice-2.ensures

pub open_ports-requires-clause-short : goal.open_ports-requires-clause-short
open_ports-requires-clause-short c =
    let job : Job = record { image = c.self.inside.image; input = c.self.inside.input; budget = c.self.inside.budget } in
    let stops = subst (λ (o : Course). StopsAtCall o.job (world_of o) c.args.actor c.args.turns c.args.sent) (sym c.self.view_is) c.requires.stops in
    short_args job c.self.inside.history c.self.inside.parts c.args.actor c.args.turns c.args.sent c.self.invariant stops c.as_slice-2.result.now c.as_slice-2.ensures

pub overflow_cast-call : goal.overflow_cast-call
overflow_cast-call c =
    let job : Job = record { image = c.self.inside.image; input = c.self.inside.input; budget = c.self.inside.budget } in
    let stops = subst (λ (o : Course). StopsAtCall o.job (world_of o) c.args.actor c.args.turns c.args.sent) (sym c.self.view_is) c.requires.stops in
    record { fits = omega (arith, c.len.ensures, few_args job c.self.inside.history c.self.inside.parts c.args.actor c.args.turns c.args.sent c.self.invariant stops c.args.sent.args refl) }

pub make_call-requires : goal.make_call-requires
make_call-requires c =
    let job : Job = record { image = c.self.inside.image; input = c.self.inside.input; budget = c.self.inside.budget } in
    let k = c.self.invariant in
    let stops = subst (λ (o : Course). StopsAtCall o.job (world_of o) c.args.actor c.args.turns c.args.sent) (sym c.self.view_is) c.requires.stops in
    let within : (after job c.self.inside.history).turns ≤ job.budget = subst (λ (o : Course). (world_of o).turns ≤ o.job.budget) (sym c.self.view_is) c.requires.within in
    may_add job c.self.inside.history c.self.inside.parts c.args.actor c.args.turns c.args.sent k stops c.as_slice.result.now c.as_slice.ensures
    c.as_slice-3.result.now c.open_ports.new.ports _ within (c.as_slice-3.ensures.value ∙ c.in_ok-passed.ensures) refl (c.count-callee.ensures ∙ k.holds.going.length_is)

pub close-requires : goal.close-requires
close-requires c = subst IsSome (sym (open_still c.self.inside.parts c.make_call.new.parts c.count-callee.result c.open_ports.new.ports _ c.in_ok-missing.ensures.ok c.in-Err.ensures.err)) refl

pub invariant_of-self-in-Err : goal.invariant_of-self-in-Err
invariant_of-self-in-Err c =
    let job : Job = record { image = c.self.inside.image; input = c.self.inside.input; budget = c.self.inside.budget } in
    let k = c.self.invariant in
    let same = parts_again c.self.inside.parts c.make_call.new.parts c.count-callee.result c.open_ports.new.ports c.close.new.self _
    (k.holds.ports.beyond c.count-callee.result (omega (arith, c.count-callee.ensures, k.holds.going.length_is))) c.in_ok-missing.ensures.ok c.in-Err.ensures.err c.close.ensures in
    subst (λ (l : Log). Kept job l (record c.make_call.new.parts { ports = c.close.new.self })) (sym c.in-Err.ensures.nothing) (subst (λ (q : Parts). Kept job c.self.inside.history q) (sym same) k)

pub invariant_of-self-2 : goal.invariant_of-self-2
invariant_of-self-2 c =
    let job : Job = record { image = c.self.inside.image; input = c.self.inside.input; budget = c.self.inside.budget } in
    let p = c.self.inside.parts in
    let log = c.self.inside.history in
    let k = c.self.invariant in
    let stops = subst (λ (o : Course). StopsAtCall o.job (world_of o) c.args.actor c.args.turns c.args.sent) (sym c.self.view_is) c.requires.stops in
    let going : (after job log).why ≡ Going = subst (λ (o : Course). (world_of o).why ≡ Going) (sym c.self.view_is) c.requires.going in
    let within : (after job log).turns ≤ job.budget = subst (λ (o : Course). (world_of o).turns ≤ o.job.budget) (sym c.self.view_is) c.requires.within in
    let callee : c.count-callee.result ≡ (after job log).count = c.count-callee.ensures ∙ k.holds.going.length_is in
    let given = given_args job log p c.args.actor c.args.turns c.args.sent k stops c.as_slice-2.result.now c.as_slice-2.ensures in
    let passed = passed_args job log p c.args.actor c.args.turns c.args.sent k stops c.as_slice.result.now c.as_slice.ensures in
    let now : c.make_call.new.history ≡ Send c.args.actor c.args.turns (after job log).count c.args.sent.member.0 c.args.sent.object stops.arguments ∷ log = c.in_default.ensures.happened
    ∙ ap (λ object. Send c.args.actor c.args.turns c.count-callee.result c.args.sent.member.0 object (map held_of c.args.sent.args) ∷ log) (to_z-of_z w64 c.object_of-object.result (record { sfits = c.object_of-object.type_inv }) ∙ c.object_of-object.ensures)
    ∙ ap (λ n. Send c.args.actor c.args.turns n c.args.sent.member.0 c.args.sent.object (map held_of c.args.sent.args) ∷ log) callee
    ∙ ap (λ hs. Send c.args.actor c.args.turns (after job log).count c.args.sent.member.0 c.args.sent.object hs ∷ log) (ap (map held_of) stops.are ∙ held_so stops.arguments) in
    subst (λ (q : Parts). Kept job c.make_call.new.history q)
    (sym (sent_parts p c.make_call.new.parts (after job log) c.args.actor c.args.sent.member.0 c.count-callee.result c.len.result c.in_ok-missing.missing c.in_ok-all.all c.open_ports.new.ports
    (passed_of ((after job log).actors c.args.actor).child stops.arguments) c.as_slice-3.result.now stops.arguments c.in_default.ensures.ok callee
    (c.len.ensures ∙ many_args job log p c.args.actor c.args.turns c.args.sent k stops c.args.sent.args refl)
    (c.in_ok-missing.ensures.missing ∙ ap missing_in given)
    (c.in_ok-missing.ensures.ok ∙ ap (insert p.ports c.count-callee.result) given)
    (c.as_slice-3.ensures.value ∙ c.in_ok-passed.ensures ∙ passed)))
    (send_kept job log c.make_call.new.history p c.args.actor c.args.turns c.args.sent.member.0 c.in_ok-all.all c.args.sent.object stops.arguments k now going
    (record { stops = stops.stops; next = refl; within = within }) c.in_ok-all.ensures)

pub returns-clause-ok : goal.returns-clause-ok
returns-clause-ok c =
    let job : Job = record { image = c.self.inside.image; input = c.self.inside.input; budget = c.self.inside.budget } in
    let log = c.self.inside.history in
    let k = c.self.invariant in
    let stops = subst (λ (o : Course). StopsAtCall o.job (world_of o) c.args.actor c.args.turns c.args.sent) (sym c.self.view_is) c.requires.stops in
    let now : c.make_call.new.history ≡ Send c.args.actor c.args.turns c.count-callee.result c.args.sent.member.0 c.args.sent.object stops.arguments ∷ log = c.in_default.ensures.happened
    ∙ ap (λ object. Send c.args.actor c.args.turns c.count-callee.result c.args.sent.member.0 object (map held_of c.args.sent.args) ∷ log) (to_z-of_z w64 c.object_of-object.result (record { sfits = c.object_of-object.type_inv }) ∙ c.object_of-object.ensures)
    ∙ ap (λ hs. Send c.args.actor c.args.turns c.count-callee.result c.args.sent.member.0 c.args.sent.object hs ∷ log) (ap (map held_of) stops.are ∙ held_so stops.arguments) in
    subst (λ (o : Course). Sends c.args.actor c.args.turns c.args.sent o (record { job = job; log = c.make_call.new.history }) c.count-callee.result) c.self.view_is
    (record {
      arguments = stops.arguments;
      are = stops.are;
      next = c.count-callee.ensures ∙ k.holds.going.length_is;
      sends = ap (λ (l : Log). record { job = job; log = l }) now;
    })
