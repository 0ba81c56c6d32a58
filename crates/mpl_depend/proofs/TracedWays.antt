-- Walks that save values and put them back.
use Rattle.std.proofs.Common.{◌≡◌, ◌<◌, ◌≤◌, ◌+◌, ℕ, Bool, true, false, List, [], ◌∷◌, ◌⊎◌, inl, inr, drop, length, map, sym, subst, ◌∙◌}
use Rattle.mpl_mean.specs.Pending.Paths.{Ways, Then, Either, Loop}
use Rattle.mpl_depend.specs.Internal.Ranks.{Joins, Round, Rounded, Stands, Traced, Writes, value_at}
use Rattle.mpl_depend.specs.Internal.Saves.{AreWithin, EndsAt, Opened, Restores, Saves, saved_of}
use Rattle.mpl_depend.specs.Internal.SeenWays.{all_seen, ways_seen}
use Rattle.mpl_depend.specs.declared.saved.Saved.{Saved}
use Rattle.mpl_depend.specs.declared.values.Edge.{Edge}
use Rattle.mpl_depend.specs.declared.values.Use.{Use}
use Rattle.mpl_depend.specs.declared.ways.Ways.{Ways as Made}
use Rattle.mpl_depend.proofs.Savings.{again_of, again_saved, again_within, saved_again}
use Rattle.mpl_depend.proofs.Traces.{traced_either, traced_first, traced_halts, traced_loop, traced_loop_halts, traced_nothing, traced_second, traced_then}

-- ---- one after another

-- what comes of all is what comes of those from a place on
pub record TracedSo (list : List Made) (i low middle : ℕ) (edges between : List Edge) (uses some : List Use) (before now : List ℕ) : Type 0 where
  pub rest : (comes : Bool) (high : ℕ) (more : List Edge) (all : List Use) (after : List ℕ) → Traced (all_seen (map ways_seen (drop i list))) comes middle high between more some all now after
      → Traced (all_seen (map ways_seen list)) comes low high edges more uses all before after

module _ (list : List Made) (i : ℕ) (x : Made) (low middle next : ℕ) (edges between most : List Edge) (uses some all : List Use) (before now new : List ℕ) (e : drop i list ≡ x ∷ drop (i + 1) list)
    (so : TracedSo list i low middle edges between uses some before now) where
  abbrev others : Ways
  others = all_seen (map ways_seen (drop (i + 1) list))

  pub traced_next : Traced (ways_seen x) true middle next between most some all now new → TracedSo list (i + 1) low next edges most uses all before new
  traced_next one = record {
    rest = λ comes high more last after rest. so.rest comes high more last after (subst (λ left. Traced (all_seen (map ways_seen left)) comes middle high between more some last now after) (sym e)
        (traced_then (ways_seen x) others middle next high between most more some all last now new after comes one rest));
  }

  pub traced_stops : Traced (ways_seen x) false middle next between most some all now new → Traced (all_seen (map ways_seen list)) false low next edges most uses all before new
  traced_stops one = so.rest false next most all new (subst (λ left. Traced (all_seen (map ways_seen left)) false middle next between most some all now new) (sym e)
      (traced_halts (ways_seen x) others middle next between most some all now new one))

pub traced_ends : (list : List Made) (i low middle : ℕ) (edges between : List Edge) (uses some : List Use) (before now : List ℕ) → drop i list ≡ [] → ((p : ℕ) → value_at now p < middle)
    → TracedSo list i low middle edges between uses some before now → Traced (all_seen (map ways_seen list)) true low middle edges between uses some before now
traced_ends list i low middle edges between uses some before now e below so =
    so.rest true middle between some now (subst (λ left. Traced (all_seen (map ways_seen left)) true middle middle between between some some now now) (sym e) (traced_nothing middle between some now below))

-- ---- what is put back

-- where all that is written was saved
abbrev pub Stay : Ways → List ℕ → List ℕ → Type 0
Stay ways before after = (p : ℕ) → (Writes ways p → ⊥) → value_at after p ≡ value_at before p

pub restores_before : (a b : Ways) (before left : List ℕ) (saved : List Saved) → Saves (Then a b) before saved → length left ≡ length before → Stay a before left → Restores saved left before
restores_before a b before left saved s sized stay = record {
  sized = sym sized;
  of = s.of;
  others = λ p. elim (s.all p) [ inl is ↦ inl is | inr unwritten ↦ inr (stay p (λ w. unwritten (inl w))) ];
}

-- the values behind the first, behind the second from before or from behind the first
pub restores_left : (a b : Ways) (before left start right : List ℕ) (saved : List Saved) → Saves (Then a b) before saved → length right ≡ length left → Stay a before left → Stay b start right
    → ((p : ℕ) → (value_at start p ≡ value_at before p) ⊎ (value_at start p ≡ value_at left p)) → Restores (map (saved_of left) saved) right left
restores_left a b before left start right saved s sized one two starts = record {
  sized = sym sized;
  of = again_of left saved;
  others = λ p. elim (s.all p) [
    | inl is ↦ inl (again_saved left saved p is)
    | inr unwritten ↦ inr (two p (λ w. unwritten (inr w)) ∙ elim (starts p) [ inl is ↦ is ∙ sym (one p (λ w. unwritten (inl w))) | inr is ↦ is ])
  ];
}

pub restores_head : (a b : Ways) (head after last : List ℕ) (saved : List Saved) → Saves (Then a b) head saved → length last ≡ length head → Stay a head after → Stay b after last → Restores saved last head
restores_head a b head after last saved s sized one two = record {
  sized = sym sized;
  of = s.of;
  others = λ p. elim (s.all p) [ inl is ↦ inl is | inr unwritten ↦ inr (two p (λ w. unwritten (inr w)) ∙ one p (λ w. unwritten (inl w))) ];
}

-- the same places, with what stands there now
pub saves_now : (ways : Ways) (before now : List ℕ) (saved : List Saved) → Saves ways before saved → length now ≡ length before → Saves ways now (map (saved_of now) saved)
saves_now ways before now saved s sized = record {
  within = again_within now (length now) saved (subst (λ count. AreWithin count saved) (sym sized) s.within);
  of = again_of now saved;
  all = λ p. elim (s.all p) [ inl is ↦ inl (again_saved now saved p is) | inr unwritten ↦ inr unwritten ];
  only = λ p h. s.only p (saved_again now saved p h);
}

-- ---- either way

-- with what is equal
traced_as : (ways : Ways) (comes is_comes : Bool) (low high is_high : ℕ) (edges more is_more : List Edge) (uses all : List Use) (before after is_after : List ℕ) → is_comes ≡ comes → is_high ≡ high → is_more ≡ more → is_after ≡ after
    → Traced ways comes low high edges more uses all before after → Traced ways is_comes low is_high edges is_more uses all before is_after
traced_as ways comes is_comes low high is_high edges more is_more uses all before after is_after c h m a t =
    subst (λ x. Traced ways x low is_high edges is_more uses all before is_after) (sym c)
    (subst (λ x. Traced ways comes low x edges is_more uses all before is_after) (sym h)
    (subst (λ (x : List Edge). Traced ways comes low high edges x uses all before is_after) (sym m)
    (subst (λ (x : List ℕ). Traced ways comes low high edges more uses all before x) (sym a) t)))

pub traced_joined : (a b : Ways) (low middle third high : ℕ) (edges between merged more : List Edge) (uses some all : List Use) (before left right now : List ℕ) (first second comes : Bool) → Stands (Either a b) low edges before
    → Traced a first low middle edges between uses some before left → Traced b second middle third between merged some all before right → Joins first second comes third high merged more left right now
    → Traced (Either a b) comes low high edges more uses all before now
traced_joined a b low middle third high edges between merged more uses some all before left right now false false comes stands one two j =
    traced_as (Either a b) false comes low third high edges merged more uses all before left now j.0 j.1 j.2 j.3 (traced_first a b low middle third edges between merged uses some all before left right false one two)
traced_joined a b low middle third high edges between merged more uses some all before left right now true false comes stands one two j =
    traced_as (Either a b) true comes low third high edges merged more uses all before left now j.0 j.1 j.2 j.3 (traced_first a b low middle third edges between merged uses some all before left right true one two)
traced_joined a b low middle third high edges between merged more uses some all before left right now false true comes stands one two j =
    traced_as (Either a b) true comes low third high edges merged more uses all before right now j.0 j.1 j.2 j.3 (traced_second a b low middle third edges between merged uses some all before left right one two)
traced_joined a b low middle third high edges between merged more uses some all before left right now true true comes stands one two j =
    subst (λ x. Traced (Either a b) x low high edges more uses all before now) (sym j.0)
    (traced_either a b low middle third high edges between merged more uses some all before left right now stands one two j.1 j.2)

-- ---- a round of a loop

pub rounded : (test body : Ways) (low middle high : ℕ) (edges between more : List Edge) (uses some all : List Use) (saved : List Saved) (head after last : List ℕ) → Saves (Then test body) head saved
    → Traced test true low middle edges between uses some head after → EndsAt body middle high between more some all saved after last → Rounded test body low high edges more uses all head after
rounded test body low middle high edges between more uses some all saved head after last s one end = record {
  middle = middle;
  between = between;
  some = some;
  last = last;
  through_test = one;
  through_body = record {
    comes = end.comes;
    between = end.between;
    traced = end.traced;
    closed = λ is. end.closed is head (restores_head test body head after last saved s (end.traced.sized ∙ one.sized) one.stays end.traced.stays);
    same = end.same;
  };
}

pub traced_rounds : (test body : Ways) (comes : Bool) (low middle high : ℕ) (edges opened more : List Edge) (uses all : List Use) (saved : List Saved) (before head after : List ℕ) → Stands (Loop test body) low edges before
    → Saves (Then test body) before saved → Opened saved low middle edges opened before head → Round test body comes middle high opened more uses all head after → Traced (Loop test body) comes low high edges more uses all before after
traced_rounds test body comes low middle high edges opened more uses all saved before head after stands s o r = by_comes comes r where
  others : (p : ℕ) → (Writes (Loop test body) p → ⊥) → value_at head p ≡ value_at before p
  others p unwritten = elim (o.others p) [ inl is ↦ absurd (unwritten (s.only p is)) | inr same ↦ same ]

  written : (p : ℕ) → (low ≤ value_at head p) ⊎ (Writes (Loop test body) p → ⊥)
  written p = elim (s.all p) [ inl is ↦ inl (o.each p is) | inr unwritten ↦ inr unwritten ]

  by_comes : (comes : Bool) → Round test body comes middle high opened more uses all head after → Traced (Loop test body) comes low high edges more uses all before after
  by_comes true r = traced_loop test body low middle high edges opened more uses all before head after stands o.merged others written r
  by_comes false r = traced_loop_halts test body low middle high edges opened more uses all before head after stands o.merged others r

-- ---- what a walk stands on

pub in_turn_stands : (a b : Ways) (count : ℕ) (edges : List Edge) (current : List ℕ) → Stands (Either a b) count edges current → Stands (Then a b) count edges current
in_turn_stands a b count edges current s = record { within = s.within; below = s.below; fresh = s.fresh }

pub in_loop_stands : (a b : Ways) (count : ℕ) (edges : List Edge) (current : List ℕ) → Stands (Loop a b) count edges current → Stands (Then a b) count edges current
in_loop_stands a b count edges current s = record { within = s.within; below = s.below; fresh = s.fresh }
