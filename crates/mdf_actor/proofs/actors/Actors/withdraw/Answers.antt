-- The newest actor's place goes, and its node with it.
use Rattle.std.proofs.Common.{◌≡◌, ℕ, ◌++◌, ◌∷◌, ◌∙◌, [], map, length, ap, sym, subst, refl}
use Rattle.std.specs.Prelude.{Some, None, IsSome, IsSomeAnd, Option}
use Rattle.slab.specs.Slab.{get}
use Rattle.mdf_actor.specs.declared.node.Node.{Node as ANode}
use Rattle.mdf_actor.specs.declared.node.Place.TheVariants.{Node}
use Rattle.mdf_actor.specs.Nodes.{status_at, IsTied}
use Rattle.mdf_actor.proofs.Placed.{last-place, tied-fewer, statuses-fewer, all-but-last}
use Rattle.mdf_actor.proofs.actors.Actors.withdraw.Goals as goal

is_there : (n : Option ANode) (actor : ℕ) → IsSomeAnd n (λ n. n.actor ≡ actor) → IsSome n
is_there (Some n) actor named = refl
is_there None actor named = absurd named

pub remove-requires : goal.remove-requires
remove-requires c =
    let places : c.self.inside.places.items ≡ c.pop.new.self.items ++ Node c.in-Node.key ∷ [] = c.in-Some.ensures.items ∙ ap (λ p. c.pop.new.self.items ++ p ∷ []) c.in-Node.is in
    is_there (get c.self.inside.nodes c.in-Node.key) (length c.pop.new.self.items)
    (subst (IsTied c.self.inside.nodes) places c.self.invariant (length c.pop.new.self.items) c.in-Node.key (last-place c.pop.new.self.items (Node c.in-Node.key)))

pub invariant_of-self : goal.invariant_of-self
invariant_of-self c =
    let places : c.self.inside.places.items ≡ c.pop.new.self.items ++ Node c.in-Node.key ∷ [] = c.in-Some.ensures.items ∙ ap (λ p. c.pop.new.self.items ++ p ∷ []) c.in-Node.is in
    tied-fewer c.self.inside.nodes c.remove.new.self c.pop.new.self.items c.in-Node.key (subst (IsTied c.self.inside.nodes) places c.self.invariant)
    c.remove.ensures.updates.others

pub returns-in-Node-clause-rest : goal.returns-in-Node-clause-rest
returns-in-Node-clause-rest c =
    let places : c.self.inside.places.items ≡ c.pop.new.self.items ++ Node c.in-Node.key ∷ [] = c.in-Some.ensures.items ∙ ap (λ p. c.pop.new.self.items ++ p ∷ []) c.in-Node.is in
    statuses-fewer c.self.inside.nodes c.remove.new.self c.pop.new.self.items c.in-Node.key c.args.self.now
    (subst (IsTied c.self.inside.nodes) places c.self.invariant) c.remove.ensures.updates.others
    (ap (map (status_at c.self.inside.nodes)) (sym places) ∙ c.self.view_is)

pub returns-in-Node-clause-undone : goal.returns-in-Node-clause-undone
returns-in-Node-clause-undone c kept newest was =
    let places : c.self.inside.places.items ≡ c.pop.new.self.items ++ Node c.in-Node.key ∷ [] = c.in-Some.ensures.items ∙ ap (λ p. c.pop.new.self.items ++ p ∷ []) c.in-Node.is in
    statuses-fewer c.self.inside.nodes c.remove.new.self c.pop.new.self.items c.in-Node.key c.args.self.now
    (subst (IsTied c.self.inside.nodes) places c.self.invariant) c.remove.ensures.updates.others
    (ap (map (status_at c.self.inside.nodes)) (sym places) ∙ c.self.view_is)
    ∙ sym (all-but-last kept newest c.args.self.now was)
