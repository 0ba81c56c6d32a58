-- The actor has a node, since its status isn't its last, and no other actor has that node.
use Rattle.std.proofs.Common.{◌≡◌, ◌<◌, ◌∙◌, length, ap, sym, arith, false}
use Rattle.std.specs.Prelude.{Some, slice_get, slice_set}
use Rattle.std.proofs.lemmas.Option.{slice_get_within}
use Rattle.mdf_actor.specs.declared.node.Place.TheVariants.{Node}
use Rattle.mdf_actor.specs.Statuses.{is_over}
use Rattle.mdf_actor.specs.Nodes.{status_at}
use Rattle.mdf_actor.proofs.Placed.{as_many, place-read, status-at, listed, has_node, apart, tied-set, statuses-set}
use Rattle.mdf_actor.proofs.actors.Actors.set.Goals as goal

pub invariant_of-self : goal.invariant_of-self
invariant_of-self c =
    let below : c.args.actor < length c.self.inside.places.items = omega (arith, as_many c.self.inside.nodes c.self.inside.places.items _ c.self.view_is, slice_get_within c.args.self.now c.args.actor _ (listed (slice_get c.args.self.now c.args.actor) (λ kept. is_over kept ≡ false) c.requires).1) in
    let here = place-read c.self.inside.places.items c.args.actor c.index.result.now below c.index.ensures ∙ c.in-Node.is in
    tied-set c.self.inside.nodes c.change.new.nodes c.self.inside.places.items c.args.actor c.in-Node.key c.change.result c.self.invariant here
    c.change.ensures.holds c.change.ensures.others below

pub returns-in-Node : goal.returns-in-Node
returns-in-Node c =
    let below : c.args.actor < length c.self.inside.places.items = omega (arith, as_many c.self.inside.nodes c.self.inside.places.items _ c.self.view_is, slice_get_within c.args.self.now c.args.actor _ (listed (slice_get c.args.self.now c.args.actor) (λ kept. is_over kept ≡ false) c.requires).1) in
    let here = place-read c.self.inside.places.items c.args.actor c.index.result.now below c.index.ensures ∙ c.in-Node.is in
    statuses-set c.self.inside.nodes c.change.new.nodes c.self.inside.places.items c.args.actor c.change.result c.args.status c.change.ensures.status
    (λ actor key other at. c.change.ensures.others key (λ e. other (apart c.self.inside.nodes c.self.inside.places.items c.self.invariant actor c.args.actor c.in-Node.key (at ∙ ap Node e) here)))
    ∙ ap (λ ss. slice_set ss c.args.actor c.args.status) c.self.view_is

pub returns-in_default : goal.returns-in_default
returns-in_default c =
    let going = listed (slice_get c.args.self.now c.args.actor) (λ kept. is_over kept ≡ false) c.requires in
    let below : c.args.actor < length c.self.inside.places.items = omega (arith, as_many c.self.inside.nodes c.self.inside.places.items _ c.self.view_is, slice_get_within c.args.self.now c.args.actor _ going.1) in
    let here = place-read c.self.inside.places.items c.args.actor c.index.result.now below c.index.ensures in
    let shown : Some (status_at c.self.inside.nodes c.index.result.now) ≡ Some going.0 =
    sym (ap (λ ss. slice_get ss c.args.actor) (sym c.self.view_is) ∙ status-at c.self.inside.nodes c.self.inside.places.items c.args.actor below ∙ ap (λ p. Some (status_at c.self.inside.nodes p)) here) ∙ going.1 in
    let is : status_at c.self.inside.nodes c.index.result.now ≡ going.0 = cc in
    absurd (has_node c.self.inside.nodes c.index.result.now c.in_default.not-Node (ap is_over is ∙ going.2))
