-- The status stands in the actor's node, or is that of its place.
use Rattle.std.proofs.Common.{◌≡◌, ℕ, Bor, ◌<◌, ◌∙◌, length, ap, sym, refl, arith}
use Rattle.std.specs.Prelude.{Some, None, Option, IsSome, IsSomeAnd, slice_get}
use Rattle.std.specs.Option.{option_copied, option_map_or}
use Rattle.slab.specs.Slab.{get}
use Rattle.mdf_actor.specs.declared.node.Node.{Node}
use Rattle.mdf_actor.specs.declared.status.ActorStatus.TheVariants.{Ended}
use Rattle.mdf_actor.specs.Nodes.{status_at}
use Rattle.mdf_actor.proofs.Placed.{as_many, place-read, status-at}
use Rattle.mdf_actor.proofs.actors.Actors.status.Goals as goal

-- what a look-up lent is there
is_there : (r : Option (Bor Node)) (n : Option Node) (actor : ℕ) → option_copied r ≡ n → IsSomeAnd n (λ n. n.actor ≡ actor) → IsSome r
is_there None (Some n) actor is named = absurd (cc)
is_there None None actor is named = absurd named
is_there (Some _) n actor is named = refl

pub unwrap-requires : goal.unwrap-requires
unwrap-requires c =
    let below : c.args.actor < length c.self.inside.places.items = omega (arith, as_many c.self.inside.nodes c.self.inside.places.items _ c.self.view_is, c.requires) in
    let here = place-read c.self.inside.places.items c.args.actor c.index.result.now below c.index.ensures in
    let named = c.self.invariant c.args.actor c.in-Node.key (here ∙ c.in-Node.is) in is_there _ _ _ c.get.ensures named

pub returns-in-Node : goal.returns-in-Node
returns-in-Node c =
    let below : c.args.actor < length c.self.inside.places.items = omega (arith, as_many c.self.inside.nodes c.self.inside.places.items _ c.self.view_is, c.requires) in
    let here = place-read c.self.inside.places.items c.args.actor c.index.result.now below c.index.ensures in
    let node : get c.self.inside.nodes c.in-Node.key ≡ Some c.unwrap.result.now = sym c.get.ensures ∙ ap option_copied c.unwrap.ensures in
    sym (ap (λ ss. slice_get ss c.args.actor) c.self.view_is)
    ∙ status-at c.self.inside.nodes c.self.inside.places.items c.args.actor below
    ∙ ap (λ p. Some (status_at c.self.inside.nodes p)) (here ∙ c.in-Node.is)
    ∙ ap (λ n. Some (option_map_or (λ n. n.status) n Ended)) node

pub returns-in-Ended : goal.returns-in-Ended
returns-in-Ended c =
    let below : c.args.actor < length c.self.inside.places.items = omega (arith, as_many c.self.inside.nodes c.self.inside.places.items _ c.self.view_is, c.requires) in
    let here = place-read c.self.inside.places.items c.args.actor c.index.result.now below c.index.ensures in
    sym (ap (λ ss. slice_get ss c.args.actor) c.self.view_is)
    ∙ status-at c.self.inside.nodes c.self.inside.places.items c.args.actor below
    ∙ ap (λ p. Some (status_at c.self.inside.nodes p)) (here ∙ c.in-Ended.is)

pub returns-in-Poisoned : goal.returns-in-Poisoned
returns-in-Poisoned c =
    let below : c.args.actor < length c.self.inside.places.items = omega (arith, as_many c.self.inside.nodes c.self.inside.places.items _ c.self.view_is, c.requires) in
    let here = place-read c.self.inside.places.items c.args.actor c.index.result.now below c.index.ensures in
    sym (ap (λ ss. slice_get ss c.args.actor) c.self.view_is)
    ∙ status-at c.self.inside.nodes c.self.inside.places.items c.args.actor below
    ∙ ap (λ p. Some (status_at c.self.inside.nodes p)) (here ∙ c.in-Poisoned.is)
