-- Walks that give values, put together of walks along their parts.
use Rattle.std.proofs.Common.{◌≡◌, ◌<◌, ◌≤◌, ◌+◌, ℕ, zero, suc, Bool, true, false, List, [], ◌∷◌, ◌⊎◌, inl, inr, length, nat_eq, if◌then◌else◌, refl, ap, sym, subst, true≢false, ltb-true, lt-ltb, ◌∙◌, arith}
use Rattle.std.specs.List.{Contains, slice_index_or}
use Rattle.std.proofs.lemmas.Bool.{ne_eqb}
use Rattle.std.proofs.lemmas.List.Elements.{Contains-append_cases, Contains-append_left, Contains-append_right}
use Rattle.mpl_mean.specs.Pending.Looseness.{Event, Loosens, Settles, Copies, Forces}
use Rattle.mpl_mean.specs.Pending.Paths.{Ways, NoEvent, Only, Then, Either, Loop, Stop, only, one_way, other_way, UpTo, here, in_one, in_other, in_test}
use Rattle.mpl_mean.specs.Pending.Paths as paths
use Rattle.mpl_depend.specs.Internal.Carried.{AreIn, event_on, no_place}
use Rattle.mpl_depend.specs.Internal.Certain.{IsMarked}
use Rattle.mpl_depend.specs.Internal.Ranks.{AreMarked, AreRanked, Ended, IsBack, IsClosed, IsNew, Merged, Ranks, Rounded, Stands, Traced, Writes, added, behind, is_by, is_some, loose, loose_by, place_of, value_at, values_on}
use Rattle.mpl_depend.specs.Internal.Walking.{Meets, Reaches, Within}
use Rattle.mpl_depend.specs.declared.values.Edge.{Edge}
use Rattle.mpl_depend.specs.declared.values.Use.{Use}
use Rattle.mpl_depend.proofs.Certainty.{certain_more, nothing_certain, nothing_comes}
use Rattle.mpl_depend.proofs.Rounds.{Rounds, at_start, to_end, to_head, to_use}
use Rattle.mpl_depend.proofs.Walks.{first_met, meets_both, reaches_both}

-- ---- ranks

some_of : (most rank : ℕ) → is_by most rank ≡ true → is_some rank ≡ true
some_of most zero h = h
some_of most (suc rank) h = refl

-- what comes from a lower rank is lower than all that the higher one is
by_lower : (most less rank higher : ℕ) → is_some rank ≡ true → rank < higher → is_by most higher ≡ true → most ≤ suc less → is_by less rank ≡ true
by_lower most less zero higher some lower h few = absurd (true≢false (sym some))
by_lower most less (suc rank) zero some lower h few = absurd (omega arith)
by_lower most less (suc rank) (suc higher) some lower h few = lt-ltb rank less (let l : higher < most = ltb-true higher most h in omega arith)

by_more : (less most rank : ℕ) → less ≤ most → is_by less rank ≡ true → is_by most rank ≡ true
by_more less most zero few h = absurd (true≢false (sym h))
by_more less most (suc rank) few h = lt-ltb rank most (let l : rank < less = ltb-true rank less h in omega arith)

by_none : (rank : ℕ) → is_by 0 rank ≡ true → ⊥
by_none zero h = true≢false (sym h)
by_none (suc rank) h = let l : rank < 0 = ltb-true rank 0 h in absurd (omega arith)

-- the values that are made before a number come along the edges before it
ranked_first : (ranks : Ranks) (low middle high : ℕ) (edges more : List Edge) → middle ≤ high → ((edge : Edge) → Contains more edge → Contains edges edge ⊎ (middle ≤ edge.into)) → AreRanked ranks low high more → AreRanked ranks low middle edges
ranked_first ranks low middle high edges more rising new ranked value from to some =
    let c = ranked value from (omega arith) some in
    let is = c.into in
    record {
      edge = c.edge;
      there = elim (new c.edge c.there) [ inl k ↦ k | inr above ↦ absurd (let a : middle ≤ c.edge.into = above in omega arith) ];
      into = c.into;
      loose = c.loose;
      lower = c.lower;
    }

ranked_second : (ranks : Ranks) (low middle high : ℕ) (more : List Edge) → low ≤ middle → AreRanked ranks low high more → AreRanked ranks middle high more
ranked_second ranks low middle high more rising ranked value from to some = ranked value (omega arith) to some

-- ---- nothing, and one event

pub traced_nothing : (count : ℕ) (edges : List Edge) (uses : List Use) (current : List ℕ) → ((place : ℕ) → value_at current place < count) → Traced NoEvent true count count edges edges uses uses current current
traced_nothing count edges uses current below = record {
  sized = refl;
  rising = omega arith;
  below = below;
  kept = λ edge h. h;
  new = λ edge h. inl h;
  uses_kept = λ made h. h;
  stays = λ p _. refl;
  settles = λ ranks marks none closed marked p e. e;
  sound = λ ranks most none ranked _ p h. record { path = []; through = paths.nothing; is_there = h };
  uses_sound = λ ranks most none ranked made h. inl h;
}

pub traced_stop : (count : ℕ) (edges : List Edge) (uses : List Use) (current : List ℕ) → ((place : ℕ) → value_at current place < count) → Traced Stop false count count edges edges uses uses current current
traced_stop count edges uses current below = record {
  sized = refl;
  rising = omega arith;
  below = below;
  kept = λ edge h. h;
  new = λ edge h. inl h;
  uses_kept = λ made h. h;
  stays = λ p _. refl;
  settles = λ ranks marks none closed marked. tt;
  sound = λ ranks most none ranked comes. absurd (true≢false (sym comes));
  uses_sound = λ ranks most none ranked made h. inl h;
}

push : (f : ℕ → Bool) (b : Bool) (x y : ℕ) → f (if b then x else y) ≡ (if b then f x else f y)
push f true x y = refl
push f false x y = refl

-- what is said of values follows the events
follows : (f : ℕ → Bool) → f 0 ≡ false → (event : Event) (values : ℕ → ℕ) (p : ℕ) → f (values_on event values p) ≡ event_on event (λ q. f (values q)) p
follows f none (Loosens n) values p = push f (nat_eq (n + 1) p) (values 0) (values p)
follows f none (Settles n) values p = push f (nat_eq (n + 1) p) 0 (values p) ∙ ap (λ b. if nat_eq (n + 1) p then b else f (values p)) none
follows f none (Copies n j) values p = push f (nat_eq (n + 1) p) (values (j + 1)) (values p)
follows f none (Forces node n) values p = push f (nat_eq (n + 1) p) 0 (values p) ∙ ap (λ b. if nat_eq (n + 1) p then b else f (values p)) none

pick_below : (count : ℕ) (b : Bool) (x y : ℕ) → x < count → y < count → (if b then x else y) < count
pick_below count true x y left right = left
pick_below count false x y left right = right

event_below : (event : Event) (count : ℕ) (values : ℕ → ℕ) → ((p : ℕ) → values p < count) → (p : ℕ) → values_on event values p < count
event_below (Loosens n) count values below p = pick_below count (nat_eq (n + 1) p) (values 0) (values p) (below 0) (below p)
event_below (Settles n) count values below p = pick_below count (nat_eq (n + 1) p) 0 (values p) (let l = below 0 in omega arith) (below p)
event_below (Copies n j) count values below p = pick_below count (nat_eq (n + 1) p) (values (j + 1)) (values p) (below (j + 1)) (below p)
event_below (Forces node n) count values below p = pick_below count (nat_eq (n + 1) p) 0 (values p) (let l = below 0 in omega arith) (below p)

unwritten : (event : Event) (values : ℕ → ℕ) (p : ℕ) → (place_of event ≡ p → ⊥) → values_on event values p ≡ values p
unwritten (Loosens n) values p never = ap (λ b. if b then values 0 else values p) (ne_eqb (n + 1) p never)
unwritten (Settles n) values p never = ap (λ b. if b then 0 else values p) (ne_eqb (n + 1) p never)
unwritten (Copies n j) values p never = ap (λ b. if b then values (j + 1) else values p) (ne_eqb (n + 1) p never)
unwritten (Forces node n) values p never = ap (λ b. if b then 0 else values p) (ne_eqb (n + 1) p never)

alone : {X : Type 0} (x y : X) → Contains (x ∷ []) y → x ≡ y
alone x y h = at h.0 h.1 h.2 where
  at : (k : ℕ) → k < 1 → slice_index_or (x ∷ []) k y ≡ y → x ≡ y
  at zero less e = e
  at (suc k) less e = absurd (let l : suc k < 1 = less in omega arith)

use_kept : (event : Event) (values : ℕ → ℕ) (uses : List Use) (made : Use) → Contains uses made → Contains (added event values uses) made
use_kept (Loosens n) values uses made h = h
use_kept (Settles n) values uses made h = h
use_kept (Copies n j) values uses made h = h
use_kept (Forces node n) values uses made h = Contains-append_left uses (record { node = node; value = values (n + 1) } ∷ []) made h

use_marked : (event : Event) (ranks : Ranks) (current : List ℕ) (uses : List Use) (marks : List ℕ) → AreMarked ranks (added event (value_at current) uses) marks → IsMarked event (loose ranks current) marks
use_marked (Loosens n) ranks current uses marks h = tt
use_marked (Settles n) ranks current uses marks h = tt
use_marked (Copies n j) ranks current uses marks h = tt
use_marked (Forces node n) ranks current uses marks h =
    let made : Use = record { node = node; value = value_at current (n + 1) } in
    λ e. h made (Contains-append_right uses (made ∷ []) made (0, (let l : 0 < 1 = omega arith in l), refl)) e

use_met : (event : Event) (ranks : Ranks) (most : ℕ) (current : List ℕ) (uses : List Use) (made : Use) → Contains (added event (value_at current) uses) made
    → Contains uses made ⊎ (is_by most (ranks made.value) ≡ true → Meets (Only event) (loose_by ranks most current) made.node)
use_met (Loosens n) ranks most current uses made h = inl h
use_met (Settles n) ranks most current uses made h = inl h
use_met (Copies n j) ranks most current uses made h = inl h
use_met (Forces node n) ranks most current uses made h =
    let one : Use = record { node = node; value = value_at current (n + 1) } in
    elim (Contains-append_cases uses (one ∷ []) made h) [
      | inl k ↦ inl k
      | inr k ↦ inr (subst (λ (made : Use). is_by most (ranks made.value) ≡ true → Meets (Only (Forces node n)) (loose_by ranks most current) made.node) (alone one made k)
          (λ e. record { variable = n; path = []; leads = here; is_loose = e }))
    ]

pub traced_only : (event : Event) (count : ℕ) (edges : List Edge) (uses : List Use) (before after : List ℕ) → length after ≡ length before → ((p : ℕ) → value_at after p ≡ values_on event (value_at before) p)
    → ((place : ℕ) → value_at before place < count) → Traced (Only event) true count count edges edges uses (added event (value_at before) uses) before after
traced_only event count edges uses before after sized set below = record {
  sized = sized;
  rising = omega arith;
  below = λ p. subst (λ v. v < count) (sym (set p)) (event_below event count (value_at before) below p);
  kept = λ edge h. h;
  new = λ edge h. inl h;
  uses_kept = use_kept event (value_at before) uses;
  stays = λ p never. set p ∙ unwritten event (value_at before) p never;
  settles = λ ranks marks none closed marked. (
    λ p e. ap (λ v. is_some (ranks v)) (set p) ∙ (follows (λ v. is_some (ranks v)) (ap is_some none) event (value_at before) p ∙ e),
    use_marked event ranks before uses marks marked,
  );
  sound = λ ranks most none ranked _ p h. record {
    path = event ∷ [];
    through = only;
    is_there = sym (ap (λ v. is_by most (ranks v)) (set p) ∙ follows (λ v. is_by most (ranks v)) (ap (is_by most) none) event (value_at before) p) ∙ h;
  };
  uses_sound = λ ranks most none ranked made h. use_met event ranks most before uses made h;
}

-- ---- in turn

module _ (a b : Ways) (low middle high : ℕ) (edges between more : List Edge) (uses some all : List Use) (before mid after : List ℕ) where
  pub traced_then : (comes : Bool) → Traced a true low middle edges between uses some before mid → Traced b comes middle high between more some all mid after → Traced (Then a b) comes low high edges more uses all before after
  traced_then comes one two = record {
    sized = two.sized ∙ one.sized;
    rising = (let r = one.rising in let s = two.rising in omega arith);
    below = two.below;
    kept = λ edge h. two.kept edge (one.kept edge h);
    new = λ edge h. elim (two.new edge h) [
      | inl k ↦ elim (one.new edge k) [
        | inl l ↦ inl l
        | inr at ↦ inr (at.0, let l : edge.into < middle = at.1 in let s = two.rising in omega arith)
      ]
      | inr at ↦ inr (let l : middle ≤ edge.into = at.0 in let r = one.rising in omega arith, at.1)
    ];
    uses_kept = λ made h. two.uses_kept made (one.uses_kept made h);
    stays = λ p never. two.stays p (λ w. never (inr w)) ∙ one.stays p (λ w. never (inl w));
    settles = λ ranks marks none closed marked. record {
      mid = loose ranks mid;
      one = one.settles ranks marks none (λ edge h. closed edge (two.kept edge h)) (λ made h. marked made (two.uses_kept made h));
      other = two.settles ranks marks none closed marked;
    };
    sound = λ ranks most none ranked is p h.
        reaches_both a b (loose_by ranks most before) (loose_by ranks most mid) p (one.sound ranks most none (first ranks ranked) refl) (two.sound ranks most none (second ranks ranked) is p h);
    uses_sound = λ ranks most none ranked made h. elim (two.uses_sound ranks most none (second ranks ranked) made h) [
      | inl k ↦ elim (one.uses_sound ranks most none (first ranks ranked) made k) [
        | inl l ↦ inl l
        | inr meets ↦ inr (λ e. first_met a b (loose_by ranks most before) made.node (meets e))
      ]
      | inr meets ↦ inr (λ e. meets_both a b (loose_by ranks most before) (loose_by ranks most mid) made.node (one.sound ranks most none (first ranks ranked) refl) (meets e))
    ];
  } where
    first : (ranks : Ranks) → AreRanked ranks low high more → AreRanked ranks low middle between
    first ranks ranked = ranked_first ranks low middle high between more two.rising (λ edge h. elim (two.new edge h) [ inl k ↦ inl k | inr at ↦ inr at.0 ]) ranked

    second : (ranks : Ranks) → AreRanked ranks low high more → AreRanked ranks middle high more
    second ranks ranked = ranked_second ranks low middle high more one.rising ranked

-- where no path comes behind the first, the second isn't walked
pub traced_halts : (a b : Ways) (low high : ℕ) (edges more : List Edge) (uses all : List Use) (before after : List ℕ) → Traced a false low high edges more uses all before after → Traced (Then a b) false low high edges more uses all before after
traced_halts a b low high edges more uses all before after one = record {
  sized = one.sized;
  rising = one.rising;
  below = one.below;
  kept = one.kept;
  new = one.new;
  uses_kept = one.uses_kept;
  stays = λ p never. one.stays p (λ w. never (inl w));
  settles = λ ranks marks none closed marked. record { mid = no_place; one = one.settles ranks marks none closed marked; other = nothing_certain marks b };
  sound = λ ranks most none ranked comes. absurd (true≢false (sym comes));
  uses_sound = λ ranks most none ranked made h. elim (one.uses_sound ranks most none ranked made h) [
    | inl k ↦ inl k
    | inr meets ↦ inr (λ e. first_met a b (loose_by ranks most before) made.node (meets e))
  ];
}

-- ---- either way

module _ (a b : Ways) (low middle high : ℕ) (edges between more : List Edge) (uses some all : List Use) (before left right : List ℕ) where
  met_either : (ranks : Ranks) (most : ℕ) (made : Use) → (Contains some made → Contains uses made ⊎ (is_by most (ranks made.value) ≡ true → Meets a (loose_by ranks most before) made.node))
      → Contains some made ⊎ (is_by most (ranks made.value) ≡ true → Meets b (loose_by ranks most before) made.node)
      → Contains uses made ⊎ (is_by most (ranks made.value) ≡ true → Meets (Either a b) (loose_by ranks most before) made.node)
  met_either ranks most made first (inl k) = elim (first k) [
    | inl l ↦ inl l
    | inr meets ↦ inr (λ e. let m = meets e in record { variable = m.variable; path = m.path; leads = in_one m.leads; is_loose = m.is_loose })
  ]
  met_either ranks most made first (inr meets) = inr (λ e. let m = meets e in record { variable = m.variable; path = m.path; leads = in_other m.leads; is_loose = m.is_loose })

  new_either : {edge : Edge} → (Contains between edge → Contains edges edge ⊎ ((low ≤ edge.into) × (edge.into < middle))) → low ≤ middle → middle ≤ high → Contains between edge ⊎ ((middle ≤ edge.into) × (edge.into < high))
      → Contains edges edge ⊎ ((low ≤ edge.into) × (edge.into < high))
  new_either {edge} first rising more (inl k) = elim (first k) [ inl l ↦ inl l | inr at ↦ inr (at.0, let l : edge.into < middle = at.1 in omega arith) ]
  new_either {edge} first rising more (inr at) = inr (let l : middle ≤ edge.into = at.0 in omega arith, at.1)

  -- no path comes behind the second
  pub traced_first : (comes : Bool) → Traced a comes low middle edges between uses some before left → Traced b false middle high between more some all before right → Traced (Either a b) comes low high edges more uses all before left
  traced_first comes one two = record {
    sized = one.sized;
    rising = (let r = one.rising in let s = two.rising in omega arith);
    below = λ p. let l = one.below p in let s = two.rising in omega arith;
    kept = λ edge h. two.kept edge (one.kept edge h);
    new = λ edge h. new_either (one.new edge) one.rising two.rising (two.new edge h);
    uses_kept = λ made h. two.uses_kept made (one.uses_kept made h);
    stays = λ p never. one.stays p (λ w. never (inl w));
    settles = λ ranks marks none closed marked. (
      one.settles ranks marks none (λ edge h. closed edge (two.kept edge h)) (λ made h. marked made (two.uses_kept made h)),
      certain_more marks b (loose ranks before) (loose ranks before) no_place (behind comes (loose ranks left)) (λ p e. e) (λ p e. absurd (true≢false (sym e))) (two.settles ranks marks none closed marked),
    );
    sound = λ ranks most none ranked is p h. let r = one.sound ranks most none (first ranks ranked) is p h in record { path = r.path; through = one_way r.through; is_there = r.is_there };
    uses_sound = λ ranks most none ranked made h. met_either ranks most made (one.uses_sound ranks most none (first ranks ranked) made) (two.uses_sound ranks most none (ranked_second ranks low middle high more one.rising ranked) made h);
  } where
    first : (ranks : Ranks) → AreRanked ranks low high more → AreRanked ranks low middle between
    first ranks ranked = ranked_first ranks low middle high between more two.rising (λ edge h. elim (two.new edge h) [ inl k ↦ inl k | inr at ↦ inr at.0 ]) ranked

  -- no path comes behind the first
  pub traced_second : Traced a false low middle edges between uses some before left → Traced b true middle high between more some all before right → Traced (Either a b) true low high edges more uses all before right
  traced_second one two = record {
    sized = two.sized;
    rising = (let r = one.rising in let s = two.rising in omega arith);
    below = two.below;
    kept = λ edge h. two.kept edge (one.kept edge h);
    new = λ edge h. new_either (one.new edge) one.rising two.rising (two.new edge h);
    uses_kept = λ made h. two.uses_kept made (one.uses_kept made h);
    stays = λ p never. two.stays p (λ w. never (inr w));
    settles = λ ranks marks none closed marked. (
      certain_more marks a (loose ranks before) (loose ranks before) no_place (loose ranks right) (λ p e. e) (λ p e. absurd (true≢false (sym e)))
          (one.settles ranks marks none (λ edge h. closed edge (two.kept edge h)) (λ made h. marked made (two.uses_kept made h))),
      two.settles ranks marks none closed marked,
    );
    sound = λ ranks most none ranked is p h. let r = two.sound ranks most none (ranked_second ranks low middle high more one.rising ranked) is p h in record { path = r.path; through = other_way r.through; is_there = r.is_there };
    uses_sound = λ ranks most none ranked made h. met_either ranks most made (one.uses_sound ranks most none (first ranks ranked) made) (two.uses_sound ranks most none (ranked_second ranks low middle high more one.rising ranked) made h);
  } where
    first : (ranks : Ranks) → AreRanked ranks low high more → AreRanked ranks low middle between
    first ranks ranked = ranked_first ranks low middle high between more two.rising (λ edge h. elim (two.new edge h) [ inl k ↦ inl k | inr at ↦ inr at.0 ]) ranked

-- the values of a part come along the edges of the part
ranked_part : (ranks : Ranks) (low high from to : ℕ) (part more : List Edge) → low ≤ from → to ≤ high → ((edge : Edge) → Contains more edge → from ≤ edge.into → edge.into < to → Contains part edge) → AreRanked ranks low high more → AreRanked ranks from to part
ranked_part ranks low high from to part more above below in_part ranked value at_least less some =
    let c = ranked value (omega arith) (omega arith) some in
    let is = c.into in
    record { edge = c.edge; there = in_part c.edge c.there (omega arith) (omega arith); into = c.into; loose = c.loose; lower = c.lower }

module _ (a b : Ways) (low middle third high : ℕ) (edges between merged more : List Edge) (uses some all : List Use) (before left right now : List ℕ) where
  pub traced_either : Stands (Either a b) low edges before → Traced a true low middle edges between uses some before left → Traced b true middle third between merged some all before right → Merged third high merged more left right now
      → ((place : ℕ) → value_at left place ≡ value_at right place → value_at now place ≡ value_at left place) → Traced (Either a b) true low high edges more uses all before now
  traced_either stands one two m same = record {
    sized = m.sized ∙ one.sized;
    rising = (let r = one.rising in let s = two.rising in let t = m.rising in omega arith);
    below = m.below;
    kept = λ edge h. m.kept edge (two.kept edge (one.kept edge h));
    new = λ edge h. elim (m.new edge h) [
      | inl k ↦ elim (new_either a b low middle third edges between merged uses some all before left right {edge = edge} (one.new edge) one.rising two.rising (two.new edge k)) [
        | inl l ↦ inl l
        | inr at ↦ inr (at.0, let l : edge.into < third = at.1 in let t = m.rising in omega arith)
      ]
      | inr n ↦ inr (let l = n.from_low in let r = one.rising in let s = two.rising in omega arith, n.to_high)
    ];
    uses_kept = λ made h. two.uses_kept made (one.uses_kept made h);
    stays = λ p never.
        let l = one.stays p (λ w. never (inl w)) in
        let r = two.stays p (λ w. never (inr w)) in
        same p (l ∙ sym r) ∙ l;
    settles = λ ranks marks none closed marked. (
      certain_more marks a (loose ranks before) (loose ranks before) (loose ranks left) (loose ranks now) (λ p e. e) (from_left ranks closed)
          (one.settles ranks marks none (λ edge h. closed edge (m.kept edge (two.kept edge h))) (λ made h. marked made (two.uses_kept made h))),
      certain_more marks b (loose ranks before) (loose ranks before) (loose ranks right) (loose ranks now) (λ p e. e) (from_right ranks closed)
          (two.settles ranks marks none (λ edge h. closed edge (m.kept edge h)) marked),
    );
    sound = λ ranks most none ranked _ p h. elim (m.either p) [
      | inl is ↦ by_first ranks most none ranked p (ap (λ v. is_by most (ranks v)) (sym is.0) ∙ h)
      | inr fresh ↦ let c = ranked (value_at now p) (let l = fresh.from_low in let r = one.rising in let s = two.rising in omega arith) fresh.to_high (some_of most (ranks (value_at now p)) h) in
          along ranks most none ranked p fresh.from_low c.edge c.into (by_lower most most (ranks c.edge.from) (ranks (value_at now p)) c.loose c.lower h (omega arith)) (m.new c.edge c.there)
    ];
    uses_sound = λ ranks most none ranked made h. met_either a b low middle third edges between merged uses some all before left right ranks most made
        (one.uses_sound ranks most none (first ranks ranked) made) (two.uses_sound ranks most none (second ranks ranked) made h);
  } where
    before_merge : (ranks : Ranks) → AreRanked ranks low high more → AreRanked ranks low third merged
    before_merge ranks ranked = ranked_first ranks low third high merged more m.rising (λ edge h. elim (m.new edge h) [ inl k ↦ inl k | inr n ↦ inr n.from_low ]) ranked

    first : (ranks : Ranks) → AreRanked ranks low high more → AreRanked ranks low middle between
    first ranks ranked = ranked_first ranks low middle third between merged two.rising (λ edge h. elim (two.new edge h) [ inl k ↦ inl k | inr at ↦ inr at.0 ]) (before_merge ranks ranked)

    second : (ranks : Ranks) → AreRanked ranks low high more → AreRanked ranks middle third merged
    second ranks ranked = ranked_second ranks low middle third merged one.rising (before_merge ranks ranked)

    from_left : (ranks : Ranks) → IsClosed ranks more → AreIn (loose ranks left) (loose ranks now)
    from_left ranks closed = λ p e. elim (m.either p) [ inl is ↦ ap (λ v. is_some (ranks v)) is.0 ∙ e | inr fresh ↦ closed _ fresh.left e ]

    from_right : (ranks : Ranks) → IsClosed ranks more → AreIn (loose ranks right) (loose ranks now)
    from_right ranks closed = λ p e. elim (m.either p) [ inl is ↦ ap (λ v. is_some (ranks v)) is.1 ∙ e | inr fresh ↦ closed _ fresh.right e ]

    by_first : (ranks : Ranks) (most : ℕ) → ranks 0 ≡ 0 → AreRanked ranks low high more → (p : ℕ) → loose_by ranks most left p ≡ true → Reaches (Either a b) (loose_by ranks most before) p
    by_first ranks most none ranked p h = let r = one.sound ranks most none (first ranks ranked) refl p h in record { path = r.path; through = one_way r.through; is_there = r.is_there }

    by_second : (ranks : Ranks) (most : ℕ) → ranks 0 ≡ 0 → AreRanked ranks low high more → (p : ℕ) → loose_by ranks most right p ≡ true → Reaches (Either a b) (loose_by ranks most before) p
    by_second ranks most none ranked p h = let r = two.sound ranks most none (second ranks ranked) refl p h in record { path = r.path; through = other_way r.through; is_there = r.is_there }

    old_below : (edge : Edge) → Contains merged edge → edge.into < third
    old_below edge h = elim (two.new edge h) [
      | inr at ↦ at.1
      | inl k ↦ elim (one.new edge k) [
        | inr at ↦ let l : edge.into < middle = at.1 in let s = two.rising in omega arith
        | inl l ↦ let f = stands.fresh edge l in let r = one.rising in let s = two.rising in omega arith
      ]
    ]

    along : (ranks : Ranks) (most : ℕ) → ranks 0 ≡ 0 → AreRanked ranks low high more → (p : ℕ) → third ≤ value_at now p → (edge : Edge) → edge.into ≡ value_at now p → is_by most (ranks edge.from) ≡ true
        → Contains merged edge ⊎ IsNew third high left right now edge → Reaches (Either a b) (loose_by ranks most before) p
    along ranks most none ranked p above edge into h (inl k) = absurd (let l = old_below edge k in omega arith)
    along ranks most none ranked p above edge into h (inr n) =
        let here : p ≡ n.place = m.apart p n.place above (sym into ∙ n.into) in
        elim n.from [
          | inl is ↦ by_first ranks most none ranked p (ap (λ q. is_by most (ranks (value_at left q))) here ∙ (ap (λ v. is_by most (ranks v)) (sym is) ∙ h))
          | inr is ↦ by_second ranks most none ranked p (ap (λ q. is_by most (ranks (value_at right q))) here ∙ (ap (λ v. is_by most (ranks v)) (sym is) ∙ h))
        ]

-- ---- loops

module _ (test body : Ways) (low middle high : ℕ) (edges opened more : List Edge) (uses all : List Use) (before head after : List ℕ) (stands : Stands (Loop test body) low edges before) (m : Merged low middle edges opened before before head)
    (others : (place : ℕ) → (Writes (Loop test body) place → ⊥) → value_at head place ≡ value_at before place) where
  -- an edge to the head is one that was made there, or comes from a round
  abbrev Origins : Ranks → Type 0
  Origins ranks = (edge : Edge) (p : ℕ) → Contains more edge → low ≤ value_at head p → edge.into ≡ value_at head p
      → Contains opened edge ⊎ ((less : ℕ) → is_by less (ranks edge.from) ≡ true → Reaches (Then test body) (loose_by ranks less head) p)

  at_head : (ranks : Ranks) (most : ℕ) → Origins ranks → middle ≤ high → AreRanked ranks low high more → (less : ℕ) → less ≤ most → (p : ℕ) → loose_by ranks less head p ≡ true → Reaches (Rounds test body) (loose_by ranks most before) p
  at_head ranks most origins rising ranked zero few p h = absurd (by_none (ranks (value_at head p)) h)
  at_head ranks most origins rising ranked (suc less) few p h = elim (m.either p) [
    | inl is ↦ at_start test body (loose_by ranks most before) p (ap (λ v. is_by most (ranks v)) (sym is.0) ∙ by_more (suc less) most (ranks (value_at head p)) few h)
    | inr fresh ↦ let c = ranked (value_at head p) fresh.from_low (let l = fresh.to_high in omega arith) (some_of (suc less) (ranks (value_at head p)) h) in
        elim (origins c.edge p c.there fresh.from_low c.into) [
          | inl k ↦ at_start test body (loose_by ranks most before) p (opens c.edge fresh.from_low c.into (by_lower (suc less) most (ranks c.edge.from) (ranks (value_at head p)) c.loose c.lower h (omega arith)) (m.new c.edge k))
          | inr back ↦ to_head test body (loose_by ranks most before) (loose_by ranks less head) p (at_head ranks most origins rising ranked less (omega arith))
              (back less (by_lower (suc less) less (ranks c.edge.from) (ranks (value_at head p)) c.loose c.lower h (omega arith)))
        ]
  ] where
    opens : (edge : Edge) → low ≤ value_at head p → edge.into ≡ value_at head p → is_by most (ranks edge.from) ≡ true → Contains edges edge ⊎ IsNew low middle before before head edge → is_by most (ranks (value_at before p)) ≡ true
    opens edge above into is (inl old) = absurd (let l = stands.fresh edge old in omega arith)
    opens edge above into is (inr n) =
        let here : p ≡ n.place = m.apart p n.place above (sym into ∙ n.into) in
        elim n.from [
          | inl from ↦ ap (λ q. is_by most (ranks (value_at before q))) here ∙ (ap (λ v. is_by most (ranks v)) (sym from) ∙ is)
          | inr from ↦ ap (λ q. is_by most (ranks (value_at before q))) here ∙ (ap (λ v. is_by most (ranks v)) (sym from) ∙ is)
        ]

  comes_in : (ranks : Ranks) → IsClosed ranks more → ((edge : Edge) → Contains opened edge → Contains more edge) → AreIn (loose ranks before) (loose ranks head)
  comes_in ranks closed kept = λ p e. elim (m.either p) [ inl is ↦ ap (λ v. is_some (ranks v)) is.0 ∙ e | inr fresh ↦ closed _ (kept _ fresh.left) e ]

  -- no path comes behind the test
  pub traced_loop_halts : Traced test false middle high opened more uses all head after → Traced (Loop test body) false low high edges more uses all before after
  traced_loop_halts one = record {
    sized = one.sized ∙ m.sized;
    rising = (let r = one.rising in let s = m.rising in omega arith);
    below = one.below;
    kept = λ edge h. one.kept edge (m.kept edge h);
    new = λ edge h. elim (one.new edge h) [
      | inl k ↦ elim (m.new edge k) [ inl l ↦ inl l | inr n ↦ inr (n.from_low, let l = n.to_high in let r = one.rising in omega arith) ]
      | inr at ↦ inr (let l : middle ≤ edge.into = at.0 in let s = m.rising in omega arith, at.1)
    ];
    uses_kept = one.uses_kept;
    stays = λ p never. one.stays p (λ w. never (inl w)) ∙ others p never;
    settles = λ ranks marks none closed marked. record {
      head = loose ranks head;
      mid = no_place;
      comes = comes_in ranks closed one.kept;
      through_test = one.settles ranks marks none closed marked;
      leaves = λ p e. e;
      through_body = nothing_comes marks body (loose ranks head);
    };
    sound = λ ranks most none ranked comes. absurd (true≢false (sym comes));
    uses_sound = λ ranks most none ranked made h. elim (one.uses_sound ranks most none (ranked_second ranks low middle high more m.rising ranked) made h) [
      | inl k ↦ inl k
      | inr meets ↦ inr (λ e. to_use test body (loose_by ranks most before) (loose_by ranks most head) made.node (at_head ranks most (origins ranks) one.rising ranked most (omega arith)) (first_met test body (loose_by ranks most head) made.node (meets e)))
    ];
  } where
    origins : (ranks : Ranks) → Origins ranks
    origins ranks edge p h above into = elim (one.new edge h) [ inl k ↦ inl k | inr at ↦ absurd (let l : middle ≤ edge.into = at.0 in let b = m.below p in omega arith) ]

  module _ (written : (place : ℕ) → (low ≤ value_at head place) ⊎ (Writes (Loop test body) place → ⊥)) (r : Rounded test body middle high opened more uses all head after) where
    one : Traced test true middle r.middle opened r.between uses r.some head after
    one = r.through_test

    end : Ended body r.middle high r.between more r.some all head after r.last
    end = r.through_body

    from_body : (edge : Edge) → Contains more edge → Contains end.between edge ⊎ ((end.comes ≡ true) × IsBack head r.last edge)
    from_body edge h = by_comes end.comes refl where
      by_comes : (b : Bool) → end.comes ≡ b → Contains end.between edge ⊎ ((end.comes ≡ true) × IsBack head r.last edge)
      by_comes true is = elim ((end.closed is).new edge h) [ inl k ↦ inl k | inr back ↦ inr (is, back) ]
      by_comes false is = inl (subst (λ (list : List Edge). Contains list edge) (end.same is) h)

    body_kept : (edge : Edge) → Contains end.between edge → Contains more edge
    body_kept edge h = by_comes end.comes refl where
      by_comes : (b : Bool) → end.comes ≡ b → Contains more edge
      by_comes true is = (end.closed is).kept edge h
      by_comes false is = subst (λ (list : List Edge). Contains list edge) (sym (end.same is)) h

    body_part : (edge : Edge) → Contains more edge → middle ≤ edge.into → Contains end.between edge
    body_part edge h above = elim (from_body edge h) [
      | inl k ↦ k
      | inr back ↦ absurd (let into = back.1.into in let b = m.below back.1.place in omega arith)
    ]

    test_part : (edge : Edge) → Contains more edge → middle ≤ edge.into → edge.into < r.middle → Contains r.between edge
    test_part edge h above less = elim (end.traced.new edge (body_part edge h above)) [ inl k ↦ k | inr at ↦ absurd (let l : r.middle ≤ edge.into = at.0 in omega arith) ]

    ranked_test : (ranks : Ranks) → AreRanked ranks low high more → AreRanked ranks middle r.middle r.between
    ranked_test ranks ranked = ranked_part ranks low high middle r.middle r.between more m.rising end.traced.rising test_part ranked

    ranked_body : (ranks : Ranks) → AreRanked ranks low high more → AreRanked ranks r.middle high end.between
    ranked_body ranks ranked = ranked_part ranks low high r.middle high end.between more (let s = m.rising in let t = one.rising in omega arith) (omega arith) (λ edge h above _. body_part edge h (let t = one.rising in omega arith)) ranked

    origins : (ranks : Ranks) → ranks 0 ≡ 0 → AreRanked ranks low high more → Origins ranks
    origins ranks none ranked edge p h above into = elim (from_body edge h) [
      | inl k ↦ elim (end.traced.new edge k) [
        | inl l ↦ elim (one.new edge l) [ inl o ↦ inl o | inr at ↦ absurd (let l : middle ≤ edge.into = at.0 in let b = m.below p in omega arith) ]
        | inr at ↦ absurd (let l : r.middle ≤ edge.into = at.0 in let b = m.below p in let t = one.rising in omega arith)
      ]
      | inr back ↦ inr (λ less e.
          let q = back.1.place in
          let here : p ≡ q = m.apart p q above (sym into ∙ back.1.into) in
          let there : loose_by ranks less r.last p ≡ true = ap (λ k. is_by less (ranks (value_at r.last k))) here ∙ (ap (λ v. is_by less (ranks v)) (sym back.1.from) ∙ e) in
          reaches_both test body (loose_by ranks less head) (loose_by ranks less after) p (one.sound ranks less none (ranked_test ranks ranked) refl) (end.traced.sound ranks less none (ranked_body ranks ranked) back.0 p there))
    ]

    heads : (ranks : Ranks) (most : ℕ) → ranks 0 ≡ 0 → AreRanked ranks low high more → (p : ℕ) → loose_by ranks most head p ≡ true → Reaches (Rounds test body) (loose_by ranks most before) p
    heads ranks most none ranked = at_head ranks most (origins ranks none ranked) (let t = one.rising in let u = end.traced.rising in omega arith) ranked most (omega arith)

    to_front : (ranks : Ranks) → IsClosed ranks more → AreIn (behind end.comes (loose ranks r.last)) (loose ranks head)
    to_front ranks closed = by_comes end.comes refl where
      by_comes : (b : Bool) → end.comes ≡ b → AreIn (behind b (loose ranks r.last)) (loose ranks head)
      by_comes true is = λ p e. elim ((end.closed is).all p) [ inl same ↦ ap (λ v. is_some (ranks v)) (sym same) ∙ e | inr there ↦ closed _ there e ]
      by_comes false is = λ p e. absurd (true≢false (sym e))

    pub traced_loop : Traced (Loop test body) true low high edges more uses all before after
    traced_loop = record {
      sized = one.sized ∙ m.sized;
      rising = (let s = m.rising in let t = one.rising in let u = end.traced.rising in omega arith);
      below = λ p. let l = one.below p in let u = end.traced.rising in omega arith;
      kept = λ edge h. body_kept edge (end.traced.kept edge (one.kept edge (m.kept edge h)));
      new = λ edge h. elim (from_body edge h) [
        | inl k ↦ elim (end.traced.new edge k) [
          | inl l ↦ elim (one.new edge l) [
            | inl o ↦ elim (m.new edge o) [ inl old ↦ inl old | inr n ↦ inr (n.from_low, let l = n.to_high in let t = one.rising in let u = end.traced.rising in omega arith) ]
            | inr at ↦ inr (let l : middle ≤ edge.into = at.0 in let s = m.rising in omega arith, let l : edge.into < r.middle = at.1 in let u = end.traced.rising in omega arith)
          ]
          | inr at ↦ inr (let l : r.middle ≤ edge.into = at.0 in let s = m.rising in let t = one.rising in omega arith, at.1)
        ]
        | inr back ↦ inr (goes_back edge back.0 back.1)
      ];
      uses_kept = λ made h. end.traced.uses_kept made (one.uses_kept made h);
      stays = λ p never. one.stays p (λ w. never (inl w)) ∙ others p never;
      settles = λ ranks marks none closed marked. record {
        head = loose ranks head;
        mid = loose ranks after;
        comes = comes_in ranks closed (λ edge h. body_kept edge (end.traced.kept edge (one.kept edge h)));
        through_test = one.settles ranks marks none (λ edge h. closed edge (body_kept edge (end.traced.kept edge h))) (λ made h. marked made (end.traced.uses_kept made h));
        leaves = λ p e. e;
        through_body = certain_more marks body (loose ranks after) (loose ranks after) (behind end.comes (loose ranks r.last)) (loose ranks head) (λ p e. e) (to_front ranks closed)
            (end.traced.settles ranks marks none (λ edge h. closed edge (body_kept edge h)) marked);
      };
      sound = λ ranks most none ranked _ p h.
          to_end test body (loose_by ranks most before) (loose_by ranks most head) p (heads ranks most none ranked) (one.sound ranks most none (ranked_test ranks ranked) refl p h);
      uses_sound = λ ranks most none ranked made h. elim (end.traced.uses_sound ranks most none (ranked_body ranks ranked) made h) [
        | inl k ↦ elim (one.uses_sound ranks most none (ranked_test ranks ranked) made k) [
          | inl l ↦ inl l
          | inr meets ↦ inr (λ e. to_use test body (loose_by ranks most before) (loose_by ranks most head) made.node (heads ranks most none ranked) (first_met test body (loose_by ranks most head) made.node (meets e)))
        ]
        | inr meets ↦ inr (λ e. to_use test body (loose_by ranks most before) (loose_by ranks most head) made.node (heads ranks most none ranked)
            (meets_both test body (loose_by ranks most head) (loose_by ranks most after) made.node (one.sound ranks most none (ranked_test ranks ranked) refl) (meets e)))
      ];
    } where
      goes_back : (edge : Edge) → end.comes ≡ true → IsBack head r.last edge → (low ≤ edge.into) × (edge.into < high)
      goes_back edge comes back = elim (written back.place) [
        | inl above ↦ (let into = back.into in omega arith, let into = back.into in let b = m.below back.place in let t = one.rising in let u = end.traced.rising in omega arith)
        | inr never ↦ absurd (back.differs (end.traced.stays back.place (λ w. never (inr w)) ∙ one.stays back.place (λ w. never (inl w))))
      ]

-- ---- what a walk stands on

pub stands_first : (a b : Ways) (count : ℕ) (edges : List Edge) (current : List ℕ) → Stands (Then a b) count edges current → Stands a count edges current
stands_first a b count edges current s = record { within = s.within.0; below = s.below; fresh = s.fresh }

pub stands_second : (a b : Ways) (comes : Bool) (low middle : ℕ) (edges between : List Edge) (uses some : List Use) (before mid now : List ℕ) → Stands (Then a b) low edges before → Traced a comes low middle edges between uses some before mid
    → length now ≡ length before → ((place : ℕ) → value_at now place < middle) → Stands b middle between now
stands_second a b comes low middle edges between uses some before mid now s one sized below = record {
  within = subst (λ count. Within count b) (sym sized) s.within.1;
  below = below;
  fresh = λ edge h. elim (one.new edge h) [ inl k ↦ let l = s.fresh edge k in let r = one.rising in omega arith | inr at ↦ at.1 ];
}

pub stands_head : (test body : Ways) (low middle : ℕ) (edges opened : List Edge) (before head : List ℕ) → Stands (Loop test body) low edges before → Merged low middle edges opened before before head → Stands (Loop test body) middle opened head
stands_head test body low middle edges opened before head s m = record {
  within = subst (λ count. Within count test × Within count body) (sym m.sized) s.within;
  below = m.below;
  fresh = λ edge h. elim (m.new edge h) [ inl k ↦ let l = s.fresh edge k in let r = m.rising in omega arith | inr n ↦ n.to_high ];
}
