-- The statuses that places show, as nodes change.
use Rattle.std.proofs.Common.{◌≡◌, ◌≢◌, ℕ, zero, suc, ◌-◌, ◌<◌, ◌≤◌, List, [], ◌∷◌, ◌++◌, map, length, take, refl, ap, ap₂, sym, subst, ◌∙◌, arith, false}
use Rattle.std.specs.Prelude.{Some, None, Option, IsSomeAnd, slice_get, slice_set, slice_index_or}
use Rattle.std.specs.Option.{option_map_or}
use Rattle.std.proofs.lemmas.Bool.{cases_eq, cases_lt}
use Rattle.std.proofs.Math.Logic.{⊎_elim}
use Rattle.std.proofs.lemmas.List.{get_or_append_left, get_or-append_right, get_or-set_same, get_or-set_other, length-map, length-append, map-append}
use Rattle.std.proofs.Math.Seq.{take-append_seam}
use Rattle.std.proofs.lemmas.Option.{get_or_from_slice_get, slice_get_read}
use Rattle.slab.specs.Slab.{Slab, get}
use Rattle.mdf_actor.specs.declared.status.ActorStatus.{ActorStatus}
use Rattle.mdf_actor.specs.declared.status.ActorStatus.TheVariants as status
use Rattle.mdf_actor.specs.declared.node.Node.{Node}
use Rattle.mdf_actor.specs.declared.node.Place.{Place}
use Rattle.mdf_actor.specs.declared.node.Place.TheVariants as place
use Rattle.mdf_actor.specs.Statuses.{is_over}
use Rattle.mdf_actor.specs.Nodes.{status_at, place_of, IsTied, HoldsAt}

-- a node that is as it was shows the status that it did
same_at : (old new : Slab Node) (p : Place) → ((key : ℕ) → p ≡ place.Node key → get new key ≡ get old key) → status_at new p ≡ status_at old p
same_at old new (place.Node key) same = ap (λ n. option_map_or (λ n. n.status) n status.Ended) (same key refl)
same_at old new place.Ended same = refl
same_at old new place.Poisoned same = refl

pub statuses-same : (old new : Slab Node) (places : List Place)
    → ((actor key : ℕ) → place_of places actor ≡ place.Node key → get new key ≡ get old key)
    → map (status_at new) places ≡ map (status_at old) places
statuses-same old new [] same = refl
statuses-same old new (p ∷ places) same =
    ap₂ (λ s ss. s ∷ ss) (same_at old new p (same zero)) (statuses-same old new places (λ actor. same (suc actor)))

-- all others as they were, and one place anew
pub statuses-set : (old new : Slab Node) (places : List Place) (at : ℕ) (p : Place) (s : ActorStatus) → status_at new p ≡ s
    → ((actor key : ℕ) → actor ≢ at → place_of places actor ≡ place.Node key → get new key ≡ get old key)
    → map (status_at new) (slice_set places at p) ≡ slice_set (map (status_at old) places) at s
statuses-set old new [] at p s is same = refl
statuses-set old new (q ∷ places) zero p s is same =
    ap₂ (λ s ss. s ∷ ss) is (statuses-same old new places (λ actor key. same (suc actor) key (λ e. absurd (omega arith))))
statuses-set old new (q ∷ places) (suc at) p s is same =
    ap₂ (λ s ss. s ∷ ss) (same_at old new q (λ key. same zero key (λ e. absurd (omega arith))))
    (statuses-set old new places at p s is (λ actor key other. same (suc actor) key (λ e. other (omega arith))))

-- the status of the place of an actor
pub status-at : (nodes : Slab Node) (places : List Place) (actor : ℕ) → actor < length places
    → slice_get (map (status_at nodes) places) actor ≡ Some (status_at nodes (place_of places actor))
status-at nodes [] actor below = absurd (omega arith)
status-at nodes (p ∷ places) zero below = refl
status-at nodes (p ∷ places) (suc actor) below = status-at nodes places actor (omega arith)

-- two actors have no node in common
pub apart : (nodes : Slab Node) (places : List Place) → IsTied nodes places → (a b key : ℕ)
    → place_of places a ≡ place.Node key → place_of places b ≡ place.Node key → a ≡ b
apart nodes places tied a b key at_a at_b = one (get nodes key) a b (tied a key at_a) (tied b key at_b) where
  one : (n : Option Node) (a b : ℕ) → IsSomeAnd n (λ n. n.actor ≡ a) → IsSomeAnd n (λ n. n.actor ≡ b) → a ≡ b
  one (Some n) a b is_a is_b = sym is_a ∙ is_b
  one None a b is_a is_b = absurd is_a

-- the place that was read within the list
pub place-read : (places : List Place) (actor : ℕ) (p : Place) → actor < length places → p ≡ slice_index_or places actor p → place_of places actor ≡ p
place-read places actor p below here = get_or_from_slice_get places actor p place.Ended (slice_get_read places (length places) actor p refl below here)

-- as many places as statuses
pub as_many : (nodes : Slab Node) (places : List Place) (statuses : List ActorStatus) → map (status_at nodes) places ≡ statuses → length places ≡ length statuses
as_many nodes places statuses is = sym (length-map places (status_at nodes)) ∙ ap length is

-- what is so of a list's item, which is there
pub listed : (o : Option ActorStatus) (P : ActorStatus → Type 0) → IsSomeAnd o P → (s : ActorStatus) × (o ≡ Some s) × P s
listed (Some s) P so = (s, refl, so)
listed None P so = absurd so

-- an actor whose status isn't its last has a node
pub has_node : (nodes : Slab Node) (p : Place) → ((key : ℕ) → p ≡ place.Node key → ⊥) → is_over (status_at nodes p) ≡ false → ⊥
has_node nodes (place.Node key) no_node going = no_node key refl
has_node nodes place.Ended no_node going = absurd (cc)
has_node nodes place.Poisoned no_node going = absurd (cc)

-- a key with a node isn't vacant
not_vacant : (nodes : Slab Node) (k key actor : ℕ) → get nodes key ≡ None → IsSomeAnd (get nodes k) (λ n. n.actor ≡ actor) → k ≢ key
not_vacant nodes k key actor vacant named e =
    subst (λ (n : Option Node). IsSomeAnd n (λ n. n.actor ≡ actor)) (ap (get nodes) e ∙ vacant) named

-- what stands at the one place of a list
only_place : (key k behind : ℕ) → place_of (place.Node key ∷ []) behind ≡ place.Node k → (behind ≡ 0) × (key ≡ k)
only_place key k zero at = (refl, cc)
only_place key k (suc behind) at = absurd (cc)

-- one more actor, whose node is under a key that was vacant
pub tied-added : (old new : Slab Node) (places : List Place) (key : ℕ) (node : Node) → IsTied old places → get old key ≡ None → get new key ≡ Some node
    → node.actor ≡ length places → ((other : ℕ) → other ≢ key → get new other ≡ get old other) → IsTied new (places ++ place.Node key ∷ [])
tied-added old new places key node tied vacant added names others actor k at = ⊎_elim earlier last (cases_lt actor (length places)) where
  earlier : actor < length places → IsSomeAnd (get new k) (λ n. n.actor ≡ actor)
  earlier below =
      let named = tied actor k (sym (get_or_append_left places (place.Node key ∷ []) place.Ended actor below) ∙ at) in
      subst (λ (n : Option Node). IsSomeAnd n (λ n. n.actor ≡ actor)) (sym (others k (not_vacant old k key actor vacant named))) named

  last : length places ≤ actor → IsSomeAnd (get new k) (λ n. n.actor ≡ actor)
  last above =
      let is = only_place key k (actor - length places) (sym (get_or-append_right places (place.Node key ∷ []) (length places) actor place.Ended refl above) ∙ at) in
      subst (λ (n : Option Node). IsSomeAnd n (λ n. n.actor ≡ actor)) (sym added ∙ ap (get new) is.1) (omega (arith, is.0, names))

-- one more status, behind the others
pub statuses-added : (old new : Slab Node) (places : List Place) (key : ℕ) (node : Node) → IsTied old places → get old key ≡ None → get new key ≡ Some node
    → ((other : ℕ) → other ≢ key → get new other ≡ get old other)
    → map (status_at new) (places ++ place.Node key ∷ []) ≡ map (status_at old) places ++ node.status ∷ []
statuses-added old new places key node tied vacant added others =
    map-append (status_at new) places (place.Node key ∷ [])
    ∙ ap₂ (λ ss s. ss ++ s ∷ [])
    (statuses-same old new places (λ actor k at. others k (not_vacant old k key actor vacant (tied actor k at))))
    (ap (λ n. option_map_or (λ n. n.status) n status.Ended) added)

-- what is known of a place is known of the node there
holding : (new : Slab Node) (p : Place) (key k at : ℕ) → p ≡ place.Node k → HoldsAt new p key at → IsSomeAnd (get new k) (λ n. n.actor ≡ at)
holding new (place.Node j) key k at e holds =
    let j_is : j ≡ k = cc in
    subst (λ j. IsSomeAnd (get new j) (λ n. n.actor ≡ at)) (sym holds.0 ∙ j_is) holds.1
holding new place.Ended key k at e holds = absurd (cc)
holding new place.Poisoned key k at e holds = absurd (cc)

-- an actor at another place, with what is known of the old one
pub tied-set : (old new : Slab Node) (places : List Place) (at key : ℕ) (p : Place) → IsTied old places → place_of places at ≡ place.Node key
    → HoldsAt new p key at → ((other : ℕ) → other ≢ key → get new other ≡ get old other) → at < length places → IsTied new (slice_set places at p)
tied-set old new places at key p tied here holds others below actor k is = ⊎_elim same other (cases_eq actor at) where
  same : actor ≡ at → IsSomeAnd (get new k) (λ n. n.actor ≡ actor)
  same e = subst (λ a. IsSomeAnd (get new k) (λ n. n.actor ≡ a)) (sym e)
      (holding new p key k at (sym (get_or-set_same places at p place.Ended below) ∙ ap (place_of (slice_set places at p)) (sym e) ∙ is) holds)

  other : (actor ≡ at → ⊥) → IsSomeAnd (get new k) (λ n. n.actor ≡ actor)
  other apart_from =
      let before = sym (get_or-set_other places at actor p place.Ended apart_from) ∙ is in
      subst (λ (n : Option Node). IsSomeAnd n (λ n. n.actor ≡ actor))
      (sym (others k (λ e. apart_from (apart old places tied actor at key (before ∙ ap place.Node e) here)))) (tied actor k before)

-- a place before the last, and the last
kept-place : (kept : List Place) (p : Place) (actor key : ℕ) → place_of kept actor ≡ place.Node key
    → (place_of (kept ++ p ∷ []) actor ≡ place.Node key) × (actor < length kept)
kept-place [] p actor key at = absurd (cc)
kept-place (q ∷ kept) p zero key at = (at, omega arith)
kept-place (q ∷ kept) p (suc actor) key at =
    let rest = kept-place kept p actor key at in (rest.0, omega (arith, rest.1))

pub last-place : (kept : List Place) (p : Place) → place_of (kept ++ p ∷ []) (length kept) ≡ p
last-place [] p = refl
last-place (q ∷ kept) p = last-place kept p

-- all of a list but its last item
pub all-but-last : (kept : List ActorStatus) (newest : ActorStatus) (all : List ActorStatus) → all ≡ kept ++ newest ∷ [] → kept ≡ take (length all - 1) all
all-but-last kept newest all is =
    let counted : length all - 1 ≡ length kept = omega (arith, ap length is ∙ length-append kept (newest ∷ [])) in
    sym (ap₂ take counted is ∙ take-append_seam kept (newest ∷ []))

-- the others' nodes, where that of the newest goes
others-stay : (old new : Slab Node) (kept : List Place) (at : ℕ) → IsTied old (kept ++ place.Node at ∷ [])
    → ((key : ℕ) → key ≢ at → get new key ≡ get old key) → (actor key : ℕ) → place_of kept actor ≡ place.Node key → get new key ≡ get old key
others-stay old new kept at tied others actor key is =
    let here = kept-place kept (place.Node at) actor key is in
    others key (λ e. absurd (omega (arith, here.1, apart old (kept ++ place.Node at ∷ []) tied actor (length kept) key here.0 (last-place kept (place.Node at) ∙ ap place.Node (sym e)))))

-- without the newest actor
pub tied-fewer : (old new : Slab Node) (kept : List Place) (at : ℕ) → IsTied old (kept ++ place.Node at ∷ [])
    → ((key : ℕ) → key ≢ at → get new key ≡ get old key) → IsTied new kept
tied-fewer old new kept at tied others actor key is =
    subst (λ (n : Option Node). IsSomeAnd n (λ n. n.actor ≡ actor)) (sym (others-stay old new kept at tied others actor key is))
    (tied actor key (kept-place kept (place.Node at) actor key is).0)

pub statuses-fewer : (old new : Slab Node) (kept : List Place) (at : ℕ) (statuses : List ActorStatus) → IsTied old (kept ++ place.Node at ∷ [])
    → ((key : ℕ) → key ≢ at → get new key ≡ get old key) → map (status_at old) (kept ++ place.Node at ∷ []) ≡ statuses
    → map (status_at new) kept ≡ take (length statuses - 1) statuses
statuses-fewer old new kept at statuses tied others is =
    statuses-same old new kept (others-stay old new kept at tied others)
    ∙ all-but-last (map (status_at old) kept) (status_at old (place.Node at)) statuses (sym is ∙ map-append (status_at old) kept (place.Node at ∷ []))
