-- Values are reached along edges.
use Rattle.std.proofs.Common.{◌≡◌, ◌≢◌, ◌<◌, ◌≤◌, ◌+◌, ℕ, zero, suc, true, List, [], ◌∷◌, ◌++◌, inl, inr, Option, Some, MatchOption, drop, length, get_or, refl, ap, sym, subst, true≢false, ◌∙◌, arith}
use Rattle.std.specs.List.{Contains, slice_index_or}
use Rattle.std.proofs.Math.ListN.{set, length-set}
use Rattle.std.proofs.lemmas.List.{get_or_default}
use Rattle.std.proofs.lemmas.List.Sums.{sum_by-set}
use Rattle.std.proofs.lemmas.List.Elements.{Contains-append_cases, Contains-append_left, Contains-append_right}
use Rattle.mpl_mean.proofs.Lists.{next_left}
use Rattle.mpl_depend.specs.Internal.Ranks.{Comes, IsClosed, is_some, value_at}
use Rattle.mpl_depend.specs.Internal.Reached.{Followed, IsOpen, MarksUses, Reaching, no_rank}
use Rattle.mpl_depend.specs.declared.values.Edge.{Edge}
use Rattle.mpl_depend.specs.declared.values.Use.{Use}
use Rattle.mpl_depend.proofs.Savings.{same_or_other, value_here, value_there}

-- ---- ranks

pub some_above : (rank : ℕ) → 0 < rank → is_some rank ≡ true
some_above zero less = absurd (omega arith)
some_above (suc rank) less = refl

pub some_positive : (rank : ℕ) → is_some rank ≡ true → 0 < rank
some_positive zero some = absurd (true≢false (sym some))
some_positive (suc rank) some = omega arith

-- ---- one edge

pub followed_same : (edge : Edge) (most : ℕ) (ranks : List ℕ) → (IsOpen ranks edge → edge.into < length ranks → ⊥) → Followed edge most most ranks ranks
followed_same edge most ranks closed = record {
  sized = refl;
  reaching = λ edges there r. r;
  fewer = λ is_open within. absurd (closed is_open within);
}

module _ (edge : Edge) (most : ℕ) (ranks : List ℕ) (within : edge.into < length ranks) (is_open : IsOpen ranks edge) where
  abbrev new_ranks : List ℕ
  new_ranks = set ranks edge.into (most + 1)

  here : value_at new_ranks edge.into ≡ most + 1
  here = value_here ranks edge.into (most + 1) within

  there : (v : ℕ) → v ≢ edge.into → value_at new_ranks v ≡ value_at ranks v
  there v differ = value_there ranks edge.into v (most + 1) differ

  -- what had a rank has it still
  apart : (v : ℕ) → is_some (value_at ranks v) ≡ true → v ≢ edge.into
  apart v some = λ same. absurd (true≢false (sym some ∙ ap (λ v. is_some (value_at ranks v)) same ∙ ap is_some is_open.1))

  comes_still : (edges : List Edge) (v : ℕ) → v ≢ edge.into → Comes (value_at ranks) edges v → Comes (value_at new_ranks) edges v
  comes_still edges v differ c = record {
    edge = c.edge;
    there = c.there;
    into = c.into;
    loose = ap is_some (there c.edge.from (apart c.edge.from c.loose)) ∙ c.loose;
    lower = subst (λ rank. value_at new_ranks c.edge.from < rank) (sym (there v differ)) (subst (λ rank. rank < value_at ranks v) (sym (there c.edge.from (apart c.edge.from c.loose))) c.lower);
  }

  comes_here : (edges : List Edge) → Contains edges edge → Reaching edges most ranks → Comes (value_at new_ranks) edges edge.into
  comes_here edges is r = record {
    edge = edge;
    there = is;
    into = refl;
    loose = ap is_some (there edge.from (apart edge.from is_open.0)) ∙ is_open.0;
    lower = subst (λ rank. value_at new_ranks edge.from < rank) (sym here) (subst (λ rank. rank < most + 1) (sym (there edge.from (apart edge.from is_open.0))) (let l = r.within edge.from in omega arith));
  }

  pub followed_new : Followed edge most (most + 1) ranks (set ranks edge.into (most + 1))
  followed_new = record {
    sized = length-set ranks edge.into (most + 1);
    reaching = λ edges is r. record {
      first = there 1 (apart 1 (ap is_some r.first)) ∙ r.first;
      within = λ v. elim (same_or_other v edge.into) [
        | inl same ↦ subst (λ v. value_at new_ranks v ≤ most + 1) (sym same) (subst (λ rank. rank ≤ most + 1) (sym here) (omega arith))
        | inr differ ↦ subst (λ rank. rank ≤ most + 1) (sym (there v differ)) (let l = r.within v in omega arith)
      ];
      sound = λ v some. elim (same_or_other v edge.into) [
        | inl same ↦ inr (subst (λ v. Comes (value_at new_ranks) edges v) (sym same) (comes_here edges is r))
        | inr differ ↦ elim (r.sound v (ap is_some (sym (there v differ)) ∙ some)) [ inl e ↦ inl e | inr c ↦ inr (comes_still edges v differ c) ]
      ];
    };
    fewer = λ _ _.
        let count = sum_by-set no_rank ranks edge.into (most + 1) 0 within in
        let old : no_rank (value_at ranks edge.into) ≡ no_rank 0 = ap no_rank is_open.1 in
        let new = with_rank (most + 1) (omega arith) in
        omega (arith, count, old, new);
  } where
    with_rank : (rank : ℕ) → 0 < rank → no_rank rank ≡ 0
    with_rank zero less = absurd (omega arith)
    with_rank (suc rank) less = refl

-- ---- edges by their numbers

abbrev pub edge_at : List Edge → ℕ → Edge
edge_at edges i = get_or edges i (record { from = 0; into = 0 })

pub contains_at : (edges : List Edge) (i : ℕ) → i < length edges → Contains edges (edge_at edges i)
contains_at edges i less = (i, less, get_or_default edges i (edge_at edges i) (record { from = 0; into = 0 }) less)

pub next_edge : (edges : List Edge) (i : ℕ) → i < length edges → drop i edges ≡ edge_at edges i ∷ drop (i + 1) edges
next_edge edges i less = next_left edges i (edge_at edges i) less (get_or_default edges i (record { from = 0; into = 0 }) (edge_at edges i) less)

-- ---- all edges

abbrev pub AreClosed : List ℕ → List Edge → Type 0
AreClosed ranks [] = Unit {0}
AreClosed ranks (edge ∷ edges) = (is_some (value_at ranks edge.from) ≡ true → is_some (value_at ranks edge.into) ≡ true) × AreClosed ranks edges

pub all_closed : (ranks : List ℕ) (edges : List Edge) → AreClosed ranks edges → IsClosed (value_at ranks) edges
all_closed ranks edges h edge is = at edges is.0 is.1 is.2 h where
  at : (edges : List Edge) (k : ℕ) → k < length edges → slice_index_or edges k edge ≡ edge → AreClosed ranks edges → is_some (value_at ranks edge.from) ≡ true → is_some (value_at ranks edge.into) ≡ true
  at [] k less e h = absurd (omega arith)
  at (x ∷ xs) zero less e h = subst (λ (edge : Edge). is_some (value_at ranks edge.from) ≡ true → is_some (value_at ranks edge.into) ≡ true) e h.0
  at (x ∷ xs) (suc k) less e h = at xs k (omega arith) e h.1

pub closed_next : (ranks : List ℕ) (edges : List Edge) (i : ℕ) → i < length edges → (is_some (value_at ranks (edge_at edges i).from) ≡ true → is_some (value_at ranks (edge_at edges i).into) ≡ true)
    → (AreClosed ranks (drop i edges) → AreClosed ranks edges) → AreClosed ranks (drop (i + 1) edges) → AreClosed ranks edges
closed_next ranks edges i less one before rest = before (subst (λ left. AreClosed ranks left) (sym (next_edge edges i less)) (one, rest))

-- ---- the uses

pub marks_none : (ranks : List ℕ) (marks : List ℕ) → MarksUses ranks [] marks marks
marks_none ranks marks = record { kept = λ node h. h; sound = λ node h. inl h; complete = λ made is. nothing made is } where
  nothing : {X : Type 0} (made : Use) → Contains [] made → X
  nothing made is = absurd (let l : is.0 < 0 = is.1 in omega arith)

alone : {X : Type 0} (x y : X) → Contains (x ∷ []) y → x ≡ y
alone x y h = at h.0 h.1 h.2 where
  at : (k : ℕ) → k < 1 → slice_index_or (x ∷ []) k y ≡ y → x ≡ y
  at zero less e = e
  at (suc k) less e = absurd (let l : suc k < 1 = less in omega arith)

itself : {X : Type 0} (x : X) → Contains (x ∷ []) x
itself x = (0, (let l : 0 < 1 = omega arith in l), refl)

pub marks_one : (ranks marks : List ℕ) (made : Use) → is_some (value_at ranks made.value) ≡ true → MarksUses ranks (made ∷ []) marks (marks ++ made.node ∷ [])
marks_one ranks marks made some = record {
  kept = λ node h. Contains-append_left marks (made.node ∷ []) node h;
  sound = λ node h. elim (Contains-append_cases marks (made.node ∷ []) node h) [
    | inl k ↦ inl k
    | inr k ↦ inr (record { made = made; there = itself made; is_node = alone made.node node k; loose = some })
  ];
  complete = λ other is _. subst (λ (other : Use). Contains (marks ++ made.node ∷ []) other.node) (alone made other is) (Contains-append_right marks (made.node ∷ []) made.node (itself made.node));
}

pub marks_not : (ranks marks : List ℕ) (made : Use) → value_at ranks made.value ≡ 0 → MarksUses ranks (made ∷ []) marks marks
marks_not ranks marks made none = record {
  kept = λ node h. h;
  sound = λ node h. inl h;
  complete = λ other is some. absurd (true≢false (sym some ∙ ap (λ (other : Use). is_some (value_at ranks other.value)) (sym (alone made other is)) ∙ ap is_some none));
}

pub marks_both : (ranks : List ℕ) (made : Use) (uses : List Use) (marks more most : List ℕ) → MarksUses ranks (made ∷ []) marks more → MarksUses ranks uses more most → MarksUses ranks (made ∷ uses) marks most
marks_both ranks made uses marks more most one two = record {
  kept = λ node h. two.kept node (one.kept node h);
  sound = λ node h. elim (two.sound node h) [
    | inl k ↦ elim (one.sound node k) [
      | inl old ↦ inl old
      | inr u ↦ inr (record { made = u.made; there = Contains-append_left (made ∷ []) uses u.made u.there; is_node = u.is_node; loose = u.loose })
    ]
    | inr u ↦ inr (record { made = u.made; there = Contains-append_right (made ∷ []) uses u.made u.there; is_node = u.is_node; loose = u.loose })
  ];
  complete = λ other is some. elim (Contains-append_cases (made ∷ []) uses other is) [
    | inl k ↦ two.kept other.node (one.complete other k some)
    | inr k ↦ two.complete other k some
  ];
}

abbrev pub use_at : List Use → ℕ → Use
use_at uses i = get_or uses i (record { node = 0; value = 0 })

-- what is left would make all
pub record MarksSo (ranks : List ℕ) (uses : List Use) (i : ℕ) (before now : List ℕ) : Type 0 where
  pub rest : (after : List ℕ) → MarksUses ranks (drop i uses) now after → MarksUses ranks uses before after

pub marks_next : (ranks : List ℕ) (uses : List Use) (i : ℕ) (before now new : List ℕ) → i < length uses → MarksSo ranks uses i before now → MarksUses ranks (use_at uses i ∷ []) now new → MarksSo ranks uses (i + 1) before new
marks_next ranks uses i before now new less so one = record {
  rest = λ after rest. so.rest after (subst (λ left. MarksUses ranks left now after) (sym (next_left uses i (use_at uses i) less (get_or_default uses i (record { node = 0; value = 0 }) (use_at uses i) less)))
      (marks_both ranks (use_at uses i) (drop (i + 1) uses) now new after one rest));
}

pub marks_end : (ranks : List ℕ) (uses : List Use) (i : ℕ) (before now : List ℕ) → drop i uses ≡ [] → MarksSo ranks uses i before now → MarksUses ranks uses before now
marks_end ranks uses i before now e so = so.rest now (subst (λ left. MarksUses ranks left now now) (sym e) (marks_none ranks now))

-- ---- the walk along the edges

-- what is followed on behind an edge
pub reaches_on : (edges : List Edge) (most next : ℕ) (ranks more : List ℕ) (i : ℕ) → i < length edges → Reaching edges most ranks → Followed (edge_at edges i) most next ranks more → Reaching edges next more
reaches_on edges most next ranks more i less r f = f.reaching edges (contains_at edges i less) r

-- something comes to value 1
pub reaching_begins : (edges : List Edge) (ranks : List ℕ) → 1 < length ranks → ((v : ℕ) → value_at ranks v ≡ 0) → Reaching edges 1 (set ranks 1 1)
reaching_begins edges ranks some none = record {
  first = value_here ranks 1 1 some;
  within = λ v. elim (same_or_other v 1) [
    | inl same ↦ subst (λ v. value_at (set ranks 1 1) v ≤ 1) (sym same) (let e = value_here ranks 1 1 some in omega arith)
    | inr differ ↦ let e = value_there ranks 1 v 1 differ in let z = none v in omega arith
  ];
  sound = λ v is. elim (same_or_other v 1) [
    | inl same ↦ inl same
    | inr differ ↦ absurd (true≢false (sym is ∙ ap is_some (value_there ranks 1 v 1 differ ∙ none v)))
  ];
}

pub is_found : (edges : List Edge) (ranks : List ℕ) (next : Option Edge) (edge : Edge) → next ≡ Some edge → MatchOption next (IsClosed (value_at ranks) edges) (λ edge. Contains edges edge × IsOpen ranks edge) → Contains edges edge × IsOpen ranks edge
is_found edges ranks next edge e h = subst (λ (next : Option Edge). MatchOption next (IsClosed (value_at ranks) edges) (λ edge. Contains edges edge × IsOpen ranks edge)) e h
