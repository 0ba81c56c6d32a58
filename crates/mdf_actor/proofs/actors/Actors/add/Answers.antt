-- The new node is under a key that no place has.
use Rattle.std.proofs.Common.{◌∙◌, ◌++◌, ◌∷◌, [], ap, sym, subst, map, arith}
use Rattle.mdf_actor.specs.declared.node.Place.TheVariants.{Node}
use Rattle.mdf_actor.specs.declared.status.ActorStatus.TheVariants.{Waiting}
use Rattle.mdf_actor.specs.Nodes.{status_at, IsTied}
use Rattle.mdf_actor.proofs.Placed.{tied-added, statuses-added}
use Rattle.mdf_actor.proofs.actors.Actors.add.Goals as goal

pub invariant_of-self-2 : goal.invariant_of-self-2
invariant_of-self-2 c =
    let places = c.push_reserved.ensures.items ∙ ap (λ ps. ps ++ Node c.in_ok-key.key ∷ []) c.reserve.ensures.items in
    subst (IsTied c.insert.new.self) (sym places)
    (tied-added c.self.inside.nodes c.insert.new.self c.self.inside.places.items c.in_ok-key.key _ c.self.invariant
    c.in_ok-key.ensures.was_vacant c.in_ok-key.ensures.updates.changed (omega (arith, c.len-actor.ensures)) c.in_ok-key.ensures.updates.others)

pub returns-clause-ok : goal.returns-clause-ok
returns-clause-ok c =
    let places = c.push_reserved.ensures.items ∙ ap (λ ps. ps ++ Node c.in_ok-key.key ∷ []) c.reserve.ensures.items in
    ap (map (status_at c.insert.new.self)) places
    ∙ statuses-added c.self.inside.nodes c.insert.new.self c.self.inside.places.items c.in_ok-key.key _ c.self.invariant
    c.in_ok-key.ensures.was_vacant c.in_ok-key.ensures.updates.changed c.in_ok-key.ensures.updates.others
    ∙ ap (λ ss. ss ++ Waiting c.args.missing ∷ []) c.self.view_is
