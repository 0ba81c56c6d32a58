use Rattle.std.proofs.Common.{◌<◌, None, sym, subst, ◌∙◌, arith, length}
use Rattle.mdf_core.specs.Steps.{after}
use Rattle.mdf_core.specs.Worlds.{Job}
use Rattle.mdf_machine.specs.Courses.{Course, world_of}
use Rattle.mdf_machine.specs.LookUps.{IsWoken, Wakes}
use Rattle.mdf_machine.proofs.Giving.{has_caller}
use Rattle.mdf_machine.proofs.ReadOff.{wakes_beyond, wakes_none, wakes_nothing, wakes_one}
use Rattle.mdf_machine.proofs.Seen.{is_unknown_there, result_some, value_there}
use Rattle.mdf_machine.proofs.machine.Machine.woken.Goals as goal

pub returns-then-count-actor : goal.returns-then-count-actor
returns-then-count-actor c =
    let job : Job = record { image = c.self.inside.image; input = c.self.inside.input; budget = c.self.inside.budget } in
    let k = c.self.invariant in
    subst (λ (o : Course). Wakes (world_of o) c.args.actor None) c.self.view_is
    (wakes_beyond job c.self.inside.history c.self.inside.parts c.args.actor k (omega (arith, c.if-count-actor.true, c.count.ensures, k.holds.going.length_is)))

pub state-requires : goal.state-requires
state-requires c =
    let job : Job = record { image = c.self.inside.image; input = c.self.inside.input; budget = c.self.inside.budget } in
    let k = c.self.invariant in
    result_some job (after job c.self.inside.history) c.self.inside.parts k.holds c.args.actor (omega (arith, c.if-count-actor.false, c.count.ensures, k.holds.going.length_is))

pub returns-in_default-state : goal.returns-in_default-state
returns-in_default-state c =
    let job : Job = record { image = c.self.inside.image; input = c.self.inside.input; budget = c.self.inside.budget } in
    let k = c.self.invariant in
    let there : c.args.actor < (after job c.self.inside.history).count = omega (arith, c.if-count-actor.false, c.count.ensures, k.holds.going.length_is) in
    subst (λ (o : Course). Wakes (world_of o) c.args.actor None) c.self.view_is
    (wakes_nothing (after job c.self.inside.history) c.args.actor (is_unknown_there job (after job c.self.inside.history) c.self.inside.parts k.holds c.args.actor c.state.result there c.state.ensures c.in_default-state.not-Known))

pub is_parked_on-requires : goal.is_parked_on-requires
is_parked_on-requires c =
    let job : Job = record { image = c.self.inside.image; input = c.self.inside.input; budget = c.self.inside.budget } in
    let k = c.self.invariant in
    let there : c.args.actor < (after job c.self.inside.history).count = omega (arith, c.if-count-actor.false, c.count.ensures, k.holds.going.length_is) in
    (has_caller job c.self.inside.history c.self.inside.parts k c.args.actor there).status c.row.result.now c.row.ensures

pub returns-then-is_parked_on : goal.returns-then-is_parked_on
returns-then-is_parked_on c =
    let job : Job = record { image = c.self.inside.image; input = c.self.inside.input; budget = c.self.inside.budget } in
    let k = c.self.invariant in
    let there : c.args.actor < (after job c.self.inside.history).count = omega (arith, c.if-count-actor.false, c.count.ensures, k.holds.going.length_is) in
    let caller : c.row.result.now.caller < length c.self.inside.parts.statuses = (has_caller job c.self.inside.history c.self.inside.parts k c.args.actor there).status c.row.result.now c.row.ensures in
    let value = value_there job (after job c.self.inside.history) c.self.inside.parts k.holds c.args.actor c.state.result there c.state.ensures c.in-Known.is in
    subst (λ (o : Course). IsWoken (world_of o) c.args.actor c.row.result.now.caller) c.self.view_is
    (wakes_one job (after job c.self.inside.history) c.self.inside.parts c.args.actor c.row.result.now.caller value.0 k.holds (sym k.holds.why ∙ c.in-Going.is) (omega (arith, caller, k.holds.statuses.length_is))
    (sym c.is_parked_on.ensures ∙ c.if-is_parked_on.true) value.1)

pub returns-else-is_parked_on : goal.returns-else-is_parked_on
returns-else-is_parked_on c =
    let job : Job = record { image = c.self.inside.image; input = c.self.inside.input; budget = c.self.inside.budget } in
    let k = c.self.invariant in
    subst (λ (o : Course). Wakes (world_of o) c.args.actor None) c.self.view_is
    (wakes_none job c.self.inside.history c.self.inside.parts c.args.actor c.row.result.now.caller k (k.holds.rows.at c.args.actor c.row.result.now c.row.ensures).caller
    (sym c.is_parked_on.ensures ∙ c.if-is_parked_on.false))
