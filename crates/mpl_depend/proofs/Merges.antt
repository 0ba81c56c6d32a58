-- New values where ways meet.
use Rattle.std.proofs.Common.{◌≡◌, ◌≢◌, ◌<◌, ◌≤◌, ◌+◌, ℕ, zero, suc, List, [], ◌∷◌, ◌++◌, ◌⊎◌, inl, inr, length, refl, ap, sym, subst, ◌∙◌, arith}
use Rattle.std.specs.List.{Contains, slice_index_or}
use Rattle.std.proofs.Math.ListN.{set, length-set}
use Rattle.std.proofs.lemmas.List.Elements.{Contains-append_cases, Contains-append_left, Contains-append_right}
use Rattle.mpl_depend.specs.Internal.Ranks.{Closed, IsBack, IsFresh, IsNew, Merged, Same, value_at}
use Rattle.mpl_depend.specs.Internal.Saves.{AreOf, AreWithin, IsSaved, Opened, Restores}
use Rattle.mpl_depend.specs.declared.saved.Saved.{Saved}
use Rattle.mpl_depend.specs.declared.values.Edge.{Edge}
use Rattle.mpl_depend.proofs.Savings.{same_or_other, value_here, value_there}

-- ---- one edge more

last_is : (x y : Edge) → Contains (x ∷ []) y → x ≡ y
last_is x y h = at h.0 h.1 h.2 where
  at : (k : ℕ) → k < 1 → slice_index_or (x ∷ []) k y ≡ y → x ≡ y
  at zero less e = e
  at (suc k) less e = absurd (let l : suc k < 1 = less in omega arith)

pub old_or_last : (edges : List Edge) (x y : Edge) → Contains (edges ++ x ∷ []) y → Contains edges y ⊎ (x ≡ y)
old_or_last edges x y h = elim (Contains-append_cases edges (x ∷ []) y h) [ inl k ↦ inl k | inr k ↦ inr (last_is x y k) ]

pub is_last : (edges : List Edge) (x : Edge) → Contains (edges ++ x ∷ []) x
is_last edges x = Contains-append_right edges (x ∷ []) x (0, (let l : 0 < 1 = omega arith in l), refl)

pub still : (edges : List Edge) (x y : Edge) → Contains edges y → Contains (edges ++ x ∷ []) y
still edges x y h = Contains-append_left edges (x ∷ []) y h

-- ---- one value more

abbrev pub AreBelow : ℕ → List ℕ → Type 0
AreBelow count values = (p : ℕ) → value_at values p < count

-- values are merged place by place
pub record Merging (low high : ℕ) (edges more : List Edge) (left right now : List ℕ) : Type 0 where
  pub sized : length now ≡ length right
  pub rising : low ≤ high
  pub kept : (edge : Edge) → Contains edges edge → Contains more edge
  pub new : (edge : Edge) → Contains more edge → Contains edges edge ⊎ IsNew low high left right now edge
  pub either : (p : ℕ) → (value_at now p ≡ value_at right p) ⊎ IsFresh low high more left right now p
  pub apart : (p q : ℕ) → low ≤ value_at now p → value_at now p ≡ value_at now q → p ≡ q

pub merging_begins : (low : ℕ) (edges : List Edge) (left right : List ℕ) → AreBelow low right → Merging low low edges edges left right right
merging_begins low edges left right below = record {
  sized = refl;
  rising = omega arith;
  kept = λ edge h. h;
  new = λ edge h. inl h;
  either = λ p. inl refl;
  apart = λ p q above same. absurd (let b = below p in let a : low ≤ value_at right p = above in omega arith);
}

pub merging_below : (low high : ℕ) (edges more : List Edge) (left right now : List ℕ) → AreBelow low right → Merging low high edges more left right now → AreBelow high now
merging_below low high edges more left right now below m p = elim (m.either p) [
  | inl same ↦ let e : value_at now p ≡ value_at right p = same in let b = below p in let r = m.rising in omega arith
  | inr fresh ↦ fresh.to_high
]

-- what is fresh stays so
fresh_as : (low high : ℕ) (more most : List Edge) (left right now new : List ℕ) (p : ℕ) → ((edge : Edge) → Contains more edge → Contains most edge) → value_at new p ≡ value_at now p
    → IsFresh low high more left right now p → IsFresh low (high + 1) most left right new p
fresh_as low high more most left right now new p kept same f = record {
  from_low = subst (λ v. low ≤ v) (sym same) f.from_low;
  to_high = subst (λ v. v < high + 1) (sym same) (let l = f.to_high in omega arith);
  left = subst (λ v. Contains most (record { from = value_at left p; into = v })) (sym same) (kept _ f.left);
  right = subst (λ v. Contains most (record { from = value_at right p; into = v })) (sym same) (kept _ f.right);
}

module _ (low high : ℕ) (edges more most : List Edge) (left right now : List ℕ) (place : ℕ) (below : AreBelow low right) (m : Merging low high edges more left right now) (within : place < length now)
    (old : value_at now place < low) (kept : (edge : Edge) → Contains more edge → Contains most edge)
    (added : (edge : Edge) → Contains most edge → Contains more edge ⊎ ((edge.into ≡ high) × ((edge.from ≡ value_at left place) ⊎ (edge.from ≡ value_at right place))))
    (to_left : Contains most (record { from = value_at left place; into = high })) (to_right : Contains most (record { from = value_at right place; into = high })) where
  abbrev new_values : List ℕ
  new_values = set now place high

  here : value_at new_values place ≡ high
  here = value_here now place high within

  there : (p : ℕ) → p ≢ place → value_at new_values p ≡ value_at now p
  there p differ = value_there now place p high differ

  fresh_here : IsFresh low (high + 1) most left right new_values place
  fresh_here = record {
    from_low = subst (λ v. low ≤ v) (sym here) m.rising;
    to_high = subst (λ v. v < high + 1) (sym here) (omega arith);
    left = subst (λ v. Contains most (record { from = value_at left place; into = v })) (sym here) to_left;
    right = subst (λ v. Contains most (record { from = value_at right place; into = v })) (sym here) to_right;
  }

  fresh_there : (p : ℕ) → p ≢ place → IsFresh low high more left right now p → IsFresh low (high + 1) most left right new_values p
  fresh_there p differ f = fresh_as low high more most left right now new_values p kept (there p differ) f

  not_here : (p : ℕ) → low ≤ value_at now p → p ≢ place
  not_here p above = λ same. absurd (let e : value_at now p ≡ value_at now place = ap (λ q. value_at now q) same in omega arith)

  was_new : (edge : Edge) → IsNew low high left right now edge → IsNew low (high + 1) left right new_values edge
  was_new edge n =
      let into = n.into in
      let apart = not_here n.place (let l = n.from_low in omega arith) in
      record { place = n.place; into = n.into ∙ sym (there n.place apart); from_low = n.from_low; to_high = (let l = n.to_high in omega arith); from = n.from }

  is_new : (edge : Edge) → edge.into ≡ high → (edge.from ≡ value_at left place) ⊎ (edge.from ≡ value_at right place) → IsNew low (high + 1) left right new_values edge
  is_new edge into from = record { place = place; into = into ∙ sym here; from_low = (let r = m.rising in omega arith); to_high = omega arith; from = from }

  high_above : (p : ℕ) → value_at now p < high
  high_above p = merging_below low high edges more left right now below m p

  pub merging_on : Merging low (high + 1) edges most left right new_values
  merging_on = record {
    sized = length-set now place high ∙ m.sized;
    rising = (let r = m.rising in omega arith);
    kept = λ edge h. kept edge (m.kept edge h);
    new = λ edge h. elim (added edge h) [
      | inl k ↦ elim (m.new edge k) [ inl o ↦ inl o | inr n ↦ inr (was_new edge n) ]
      | inr at ↦ inr (is_new edge at.0 at.1)
    ];
    either = λ p. elim (same_or_other p place) [
      | inl same ↦ inr (subst (λ p. IsFresh low (high + 1) most left right new_values p) (sym same) fresh_here)
      | inr differ ↦ elim (m.either p) [ inl is ↦ inl (there p differ ∙ is) | inr f ↦ inr (fresh_there p differ f) ]
    ];
    apart = λ p q above same. elim (same_or_other p place) [
      | inl first ↦ elim (same_or_other q place) [
        | inl second ↦ first ∙ sym second
        | inr differ ↦ absurd (let e : high ≡ value_at now q = sym here ∙ ap (λ p. value_at new_values p) (sym first) ∙ same ∙ there q differ in let l = high_above q in omega arith)
      ]
      | inr apart ↦ elim (same_or_other q place) [
        | inl second ↦ absurd (let e : value_at now p ≡ high = sym (there p apart) ∙ same ∙ ap (λ q. value_at new_values q) second ∙ here in let l = high_above p in omega arith)
        | inr differ ↦ m.apart p q (subst (λ v. low ≤ v) (there p apart) above) (sym (there p apart) ∙ same ∙ there q differ)
      ]
    ];
  }

  pub fresh_after : (p : ℕ) → IsFresh low high more left right now p → IsFresh low (high + 1) most left right new_values p
  fresh_after p f = fresh_there p (not_here p f.from_low) f

-- ---- the head of a loop

pub record Opening (saved rest : List Saved) (low high : ℕ) (edges more : List Edge) (before now : List ℕ) : Type 0 where
  pub merging : Merging low high edges more before before now
  pub below : AreBelow low before
  pub within : AreWithin (length before) rest
  pub of : AreOf before rest
  pub part : (p : ℕ) → IsSaved rest p → IsSaved saved p
  pub done : (p : ℕ) → IsSaved saved p → IsSaved rest p ⊎ (low ≤ value_at now p)
  pub others : (p : ℕ) → IsSaved saved p ⊎ (value_at now p ≡ value_at before p)

pub opening_begins : (saved : List Saved) (low : ℕ) (edges : List Edge) (before : List ℕ) → AreWithin (length before) saved → AreOf before saved → AreBelow low before → Opening saved saved low low edges edges before before
opening_begins saved low edges before within of below = record {
  merging = merging_begins low edges before before below;
  below = below;
  within = within;
  of = of;
  part = λ p h. h;
  done = λ p h. inl h;
  others = λ p. inr refl;
}

module _ (saved : List Saved) (one : Saved) (others : List Saved) (low high : ℕ) (edges more : List Edge) (before now : List ℕ) (o : Opening saved (one ∷ others) low high edges more before now) where
  pub opening_on_old : low ≤ value_at now one.place → Opening saved others low high edges more before now
  opening_on_old above = record {
    merging = o.merging;
    below = o.below;
    within = o.within.1;
    of = o.of.1;
    part = λ p h. o.part p (inr h);
    done = λ p h. elim (o.done p h) [
      | inl is ↦ elim is [ inl here ↦ inr (subst (λ p. low ≤ value_at now p) here above) | inr k ↦ inl k ]
      | inr l ↦ inr l
    ];
    others = o.others;
  }

  abbrev opening_edge : Edge
  opening_edge = record { from = one.value; into = high }

  pub opening_on_new : value_at now one.place < low → Opening saved others low (high + 1) edges (more ++ record { from = one.value; into = high } ∷ []) before (set now one.place high)
  opening_on_new old =
      let place = one.place in
      let within : place < length now = subst (λ count. place < count) (sym o.merging.sized) o.within.0 in
      let added : Contains (more ++ opening_edge ∷ []) (record { from = value_at before place; into = high }) = subst (λ v. Contains (more ++ opening_edge ∷ []) (record { from = v; into = high })) o.of.0 (is_last more opening_edge) in
      record {
        merging = merging_on low high edges more (more ++ opening_edge ∷ []) before before now place o.below o.merging within old (λ edge h. still more opening_edge edge h) (λ edge h. is_added edge (old_or_last more opening_edge edge h)) added added;
        below = o.below;
        within = o.within.1;
        of = o.of.1;
        part = λ p h. o.part p (inr h);
        done = λ p h. elim (same_or_other p place) [
          | inl same ↦ inr (subst (λ p. low ≤ value_at (set now place high) p) (sym same) (subst (λ v. low ≤ v) (sym (value_here now place high within)) o.merging.rising))
          | inr differ ↦ elim (o.done p h) [
            | inl is ↦ elim is [ inl here ↦ absurd (differ (sym here)) | inr k ↦ inl k ]
            | inr l ↦ inr (subst (λ v. low ≤ v) (sym (value_there now place p high differ)) l)
          ]
        ];
        others = λ p. elim (same_or_other p place) [
          | inl same ↦ inl (o.part p (inl (sym same)))
          | inr differ ↦ elim (o.others p) [ inl is ↦ inl is | inr e ↦ inr (value_there now place p high differ ∙ e) ]
        ];
      } where
        is_added : (edge : Edge) → Contains more edge ⊎ (opening_edge ≡ edge) → Contains more edge ⊎ ((edge.into ≡ high) × ((edge.from ≡ value_at before one.place) ⊎ (edge.from ≡ value_at before one.place)))
        is_added edge (inl k) = inl k
        is_added edge (inr e) = inr (sym (ap (λ (x : Edge). x.into) e), inl (sym (ap (λ (x : Edge). x.from) e) ∙ o.of.0))

pub opening_ends : (saved : List Saved) (low high : ℕ) (edges more : List Edge) (before now : List ℕ) → Opening saved [] low high edges more before now → Opened saved low high edges more before now
opening_ends saved low high edges more before now o = record {
  merged = record {
    sized = o.merging.sized;
    rising = o.merging.rising;
    below = merging_below low high edges more before before now o.below o.merging;
    kept = o.merging.kept;
    new = o.merging.new;
    either = λ p. elim (o.merging.either p) [ inl same ↦ inl (same, same) | inr f ↦ inr f ];
    apart = o.merging.apart;
  };
  each = λ p h. elim (o.done p h) [ inl none ↦ absurd none | inr l ↦ l ];
  others = o.others;
}

-- ---- where two ways meet

pub record Meeting (rest : List Saved) (low high : ℕ) (edges more : List Edge) (left right now : List ℕ) : Type 0 where
  pub merging : Merging low high edges more left right now
  pub of : AreOf left rest
  pub same : Same left right now
  pub done : (p : ℕ) → IsSaved rest p ⊎ ((value_at left p ≡ value_at right p) ⊎ IsFresh low high more left right now p)

-- whatever the values behind the first way are of which these were saved
pub record MeetingAll (saved rest : List Saved) (low high : ℕ) (edges more : List Edge) (right now : List ℕ) : Type 0 where
  pub sized : length now ≡ length right
  pub within : AreWithin (length right) rest
  pub each : (left : List ℕ) → Restores saved right left → AreBelow low left → Meeting rest low high edges more left right now

pub meeting_begins : (saved : List Saved) (low : ℕ) (edges : List Edge) (right : List ℕ) → AreWithin (length right) saved → AreBelow low right → MeetingAll saved saved low low edges edges right right
meeting_begins saved low edges right within below = record {
  sized = refl;
  within = within;
  each = λ left r under. record {
    merging = merging_begins low edges left right below;
    of = r.of;
    same = λ p e. sym e;
    done = λ p. elim (r.others p) [ inl is ↦ inl is | inr same ↦ inr (inl (sym same)) ];
  };
}

module _ (saved : List Saved) (one : Saved) (others : List Saved) (low high : ℕ) (edges more : List Edge) (right now : List ℕ) (below : AreBelow low right) (m : MeetingAll saved (one ∷ others) low high edges more right now) where
  -- what is merged here already
  merged_here : (left : List ℕ) (n : Meeting (one ∷ others) low high edges more left right now) → low ≤ value_at now one.place → IsFresh low high more left right now one.place
  merged_here left n above = elim (n.merging.either one.place) [
    | inl same ↦ absurd (let e : value_at now one.place ≡ value_at right one.place = same in let b = below one.place in omega arith)
    | inr f ↦ f
  ]

  unmerged_here : (left : List ℕ) (n : Meeting (one ∷ others) low high edges more left right now) → value_at now one.place < low → value_at now one.place ≡ value_at right one.place
  unmerged_here left n under = elim (n.merging.either one.place) [ inl same ↦ same | inr f ↦ absurd (let l = f.from_low in omega arith) ]

  keep : (left : List ℕ) (n : Meeting (one ∷ others) low high edges more left right now) → (value_at left one.place ≡ value_at right one.place) ⊎ IsFresh low high more left right now one.place
      → Meeting others low high edges more left right now
  keep left n here = record {
    merging = n.merging;
    of = n.of.1;
    same = n.same;
    done = λ p. elim (n.done p) [
      | inl is ↦ elim is [
        | inl at ↦ inr (subst (λ p. (value_at left p ≡ value_at right p) ⊎ IsFresh low high more left right now p) at here)
        | inr k ↦ inl k
      ]
      | inr d ↦ inr d
    ];
  }

  pub meeting_on_old : (low ≤ value_at now one.place) ⊎ (value_at now one.place ≡ one.value) → MeetingAll saved others low high edges more right now
  meeting_on_old why = record {
    sized = m.sized;
    within = m.within.1;
    each = λ left r under. let n = m.each left r under in keep left n (elim why [
      | inl above ↦ inr (merged_here left n above)
      | inr same ↦ inl (sym (n.of.0) ∙ sym same ∙ unmerged_here left n (let e : value_at now one.place ≡ one.value = same in let o = n.of.0 in let u = under one.place in omega arith))
    ]);
  }

  abbrev first_edge : Edge
  first_edge = record { from = one.value; into = high }

  abbrev second_edge : Edge
  second_edge = record { from = value_at now one.place; into = high }

  abbrev most : List Edge
  most = (more ++ first_edge ∷ []) ++ second_edge ∷ []

  two_kept : (edge : Edge) → Contains more edge → Contains most edge
  two_kept edge h = still (more ++ first_edge ∷ []) second_edge edge (still more first_edge edge h)

  two_added : (left : List ℕ) → one.value ≡ value_at left one.place → value_at now one.place ≡ value_at right one.place → (edge : Edge)
      → Contains most edge → Contains more edge ⊎ ((edge.into ≡ high) × ((edge.from ≡ value_at left one.place) ⊎ (edge.from ≡ value_at right one.place)))
  two_added left is_left is_right edge h = elim (old_or_last (more ++ first_edge ∷ []) second_edge edge h) [
    | inl k ↦ elim (old_or_last more first_edge edge k) [
      | inl o ↦ inl o
      | inr e ↦ inr (sym (ap (λ (x : Edge). x.into) e), inl (sym (ap (λ (x : Edge). x.from) e) ∙ is_left))
    ]
    | inr e ↦ inr (sym (ap (λ (x : Edge). x.into) e), inr (sym (ap (λ (x : Edge). x.from) e) ∙ is_right))
  ]

  pub meeting_on_new : value_at now one.place < low → value_at now one.place ≢ one.value
      → MeetingAll saved others low (high + 1) edges ((more ++ record { from = one.value; into = high } ∷ []) ++ record { from = value_at now one.place; into = high } ∷ []) right (set now one.place high)
  meeting_on_new old differs = record {
    sized = length-set now one.place high ∙ m.sized;
    within = m.within.1;
    each = λ left r under. next left (m.each left r under);
  } where
    within : one.place < length now
    within = subst (λ count. one.place < count) (sym m.sized) m.within.0

    next : (left : List ℕ) → Meeting (one ∷ others) low high edges more left right now → Meeting others low (high + 1) edges most left right (set now one.place high)
    next left n =
        let place = one.place in
        let is_right = unmerged_here left n old in
        let to_left : Contains most (record { from = value_at left place; into = high }) =
        subst (λ v. Contains most (record { from = v; into = high })) n.of.0 (still (more ++ first_edge ∷ []) second_edge first_edge (is_last more first_edge)) in
        let to_right : Contains most (record { from = value_at right place; into = high }) = subst (λ v. Contains most (record { from = v; into = high })) is_right (is_last (more ++ first_edge ∷ []) second_edge) in
        record {
          merging = merging_on low high edges more most left right now place below n.merging within old two_kept (two_added left n.of.0 is_right) to_left to_right;
          of = n.of.1;
          same = λ p e. elim (same_or_other p place) [
            | inl same ↦ absurd (differs (is_right ∙ sym (subst (λ p. value_at left p ≡ value_at right p) same e) ∙ sym n.of.0))
            | inr differ ↦ value_there now place p high differ ∙ n.same p e
          ];
          done = λ p. elim (same_or_other p place) [
            | inl same ↦ inr (inr (subst (λ p. IsFresh low (high + 1) most left right (set now place high) p) (sym same)
                (fresh_here low high edges more most left right now place below n.merging within old two_kept (two_added left n.of.0 is_right) to_left to_right)))
            | inr differ ↦ elim (n.done p) [
              | inl is ↦ elim is [ inl here ↦ absurd (differ (sym here)) | inr k ↦ inl k ]
              | inr d ↦ elim d [
                | inl e ↦ inr (inl e)
                | inr f ↦ inr (inr (fresh_after low high edges more most left right now place below n.merging within old two_kept (two_added left n.of.0 is_right) to_left to_right p f))
              ]
            ]
          ];
        }

pub meeting_ends : (saved : List Saved) (low high : ℕ) (edges more : List Edge) (right now : List ℕ) → AreBelow low right → MeetingAll saved [] low high edges more right now
    → (left : List ℕ) → Restores saved right left → AreBelow low left → Merged low high edges more left right now × Same left right now
meeting_ends saved low high edges more right now below m left r under =
    let n = m.each left r under in (
      record {
        sized = m.sized ∙ sym r.sized;
        rising = n.merging.rising;
        below = merging_below low high edges more left right now below n.merging;
        kept = n.merging.kept;
        new = n.merging.new;
        either = λ p. elim (n.done p) [
          | inl none ↦ absurd none
          | inr d ↦ elim d [ inl e ↦ inl (n.same p e, n.same p e ∙ e) | inr f ↦ inr f ]
        ];
        apart = n.merging.apart;
      },
      n.same,
    )

-- ---- back to the head of a loop

pub record Closing (saved rest : List Saved) (edges more : List Edge) (last : List ℕ) : Type 0 where
  pub within : AreWithin (length last) rest
  pub kept : (edge : Edge) → Contains edges edge → Contains more edge
  pub new : (head : List ℕ) → Restores saved last head → (edge : Edge) → Contains more edge → Contains edges edge ⊎ IsBack head last edge
  pub of : (head : List ℕ) → Restores saved last head → AreOf head rest
  pub done : (head : List ℕ) → Restores saved last head → (p : ℕ) → IsSaved rest p ⊎ ((value_at last p ≡ value_at head p) ⊎ Contains more (record { from = value_at last p; into = value_at head p }))

pub closing_begins : (saved : List Saved) (edges : List Edge) (last : List ℕ) → AreWithin (length last) saved → Closing saved saved edges edges last
closing_begins saved edges last within = record {
  within = within;
  kept = λ edge h. h;
  new = λ head r edge h. inl h;
  of = λ head r. r.of;
  done = λ head r p. elim (r.others p) [ inl is ↦ inl is | inr same ↦ inr (inl same) ];
}

module _ (saved : List Saved) (one : Saved) (others : List Saved) (edges more : List Edge) (last : List ℕ) (c : Closing saved (one ∷ others) edges more last) where
  pub closing_on_old : value_at last one.place ≡ one.value → Closing saved others edges more last
  closing_on_old same = record {
    within = c.within.1;
    kept = c.kept;
    new = c.new;
    of = λ head r. (c.of head r).1;
    done = λ head r p. elim (c.done head r p) [
      | inl is ↦ elim is [
        | inl at ↦ inr (inl (subst (λ p. value_at last p ≡ value_at head p) at (same ∙ (c.of head r).0)))
        | inr k ↦ inl k
      ]
      | inr d ↦ inr d
    ];
  }

  abbrev back_edge : Edge
  back_edge = record { from = value_at last one.place; into = one.value }

  pub closing_on_new : value_at last one.place ≢ one.value → Closing saved others edges (more ++ record { from = value_at last one.place; into = one.value } ∷ []) last
  closing_on_new differs = record {
    within = c.within.1;
    kept = λ edge h. still more back_edge edge (c.kept edge h);
    new = λ head r edge h. elim (old_or_last more back_edge edge h) [
      | inl k ↦ c.new head r edge k
      | inr e ↦ inr (record {
        place = one.place;
        from = sym (ap (λ (x : Edge). x.from) e);
        into = sym (ap (λ (x : Edge). x.into) e) ∙ (c.of head r).0;
        differs = λ same. differs (same ∙ sym (c.of head r).0);
      })
    ];
    of = λ head r. (c.of head r).1;
    done = λ head r p. elim (c.done head r p) [
      | inl is ↦ elim is [
        | inl at ↦ inr (inr (subst (λ p. Contains (more ++ back_edge ∷ []) (record { from = value_at last p; into = value_at head p })) at
            (subst (λ v. Contains (more ++ back_edge ∷ []) (record { from = value_at last one.place; into = v })) (c.of head r).0 (is_last more back_edge))))
        | inr k ↦ inl k
      ]
      | inr d ↦ elim d [ inl e ↦ inr (inl e) | inr k ↦ inr (inr (still more back_edge _ k)) ]
    ];
  }

pub closing_ends : (saved : List Saved) (edges more : List Edge) (last : List ℕ) → Closing saved [] edges more last → (head : List ℕ) → Restores saved last head → Closed edges more head last
closing_ends saved edges more last c head r = record {
  kept = c.kept;
  new = c.new head r;
  all = λ p. elim (c.done head r p) [ inl none ↦ absurd none | inr d ↦ d ];
}
