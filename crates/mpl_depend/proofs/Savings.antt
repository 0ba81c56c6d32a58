-- What is saved of lists of values, and put back.
use Rattle.std.proofs.Common.{◌≡◌, ◌≢◌, ◌<◌, ◌+◌, ℕ, List, [], ◌∷◌, ◌++◌, ◌⊎◌, inl, inr, drop, length, map, get_or, refl, ap, sym, subst, ◌∙◌, arith, get_or-set_other}
use Rattle.std.proofs.Math.ListN.{set, length-set}
use Rattle.std.proofs.lemmas.Bool.{cases_order}
use Rattle.std.proofs.lemmas.List.{ext_get_or, get_or-set_same, get_or_default}
use Rattle.mpl_mean.proofs.Lists.{next_left}
use Rattle.mpl_mean.specs.Pending.Looseness.{Event}
use Rattle.mpl_mean.specs.Pending.Paths.{Ways, NoEvent, Only, Then, Either, Loop, Stop}
use Rattle.mpl_depend.specs.Internal.Ranks.{Writes, place_of, value_at}
use Rattle.mpl_depend.specs.Internal.Saves.{AreOf, AreWithin, IsSaved, Restores, Saves, SavesMore, SavesPlace, Saving, saved_of}
use Rattle.mpl_depend.specs.Internal.SeenWays.{all_seen, ways_seen}
use Rattle.mpl_depend.specs.declared.saved.Saved.{Saved}
use Rattle.mpl_depend.specs.declared.ways.Ways.{Ways as Made}

-- ---- lists of values

pub same_or_other : (n i : ℕ) → (n ≡ i) ⊎ (n ≢ i)
same_or_other n i = elim (cases_order n i) [
  | inl same ↦ inl same
  | inr either ↦ elim either [ inl below ↦ inr (λ e. omega arith) | inr above ↦ inr (λ e. omega arith) ]
]

pub value_here : (values : List ℕ) (place value : ℕ) → place < length values → value_at (set values place value) place ≡ value
value_here values place value within = get_or-set_same values place value 0 within

pub value_there : (values : List ℕ) (place p value : ℕ) → p ≢ place → value_at (set values place value) p ≡ value_at values p
value_there values place p value differ = get_or-set_other values place p value 0 differ

-- ---- places that are saved

pub saved_left : (xs ys : List Saved) (p : ℕ) → IsSaved xs p → IsSaved (xs ++ ys) p
saved_left [] ys p h = absurd h
saved_left (x ∷ xs) ys p (inl is) = inl is
saved_left (x ∷ xs) ys p (inr h) = inr (saved_left xs ys p h)

pub saved_right : (xs ys : List Saved) (p : ℕ) → IsSaved ys p → IsSaved (xs ++ ys) p
saved_right [] ys p h = h
saved_right (x ∷ xs) ys p h = inr (saved_right xs ys p h)

saved_cases : (xs : List Saved) (one : Saved) (p : ℕ) → IsSaved (xs ++ one ∷ []) p → IsSaved xs p ⊎ (one.place ≡ p)
saved_cases [] one p (inl is) = inr is
saved_cases [] one p (inr h) = absurd h
saved_cases (x ∷ xs) one p (inl is) = inl (inl is)
saved_cases (x ∷ xs) one p (inr h) = elim (saved_cases xs one p h) [ inl k ↦ inl (inr k) | inr is ↦ inr is ]

pub saved_or_not : (xs : List Saved) (p : ℕ) → IsSaved xs p ⊎ (IsSaved xs p → ⊥)
saved_or_not [] p = inr (λ h. h)
saved_or_not (x ∷ xs) p = elim (same_or_other p x.place) [
  | inl same ↦ inl (inl (sym same))
  | inr differ ↦ elim (saved_or_not xs p) [
    | inl is ↦ inl (inr is)
    | inr never ↦ inr (λ h. neither h differ never)
  ]
] where
  neither : (x.place ≡ p) ⊎ IsSaved xs p → p ≢ x.place → (IsSaved xs p → ⊥) → ⊥
  neither (inl is) differ never = absurd (differ (sym is))
  neither (inr h) differ never = never h

within_more : (count : ℕ) (xs : List Saved) (one : Saved) → AreWithin count xs → one.place < count → AreWithin count (xs ++ one ∷ [])
within_more count [] one h less = (less, tt)
within_more count (x ∷ xs) one h less = (h.0, within_more count xs one h.1 less)

of_more : (values : List ℕ) (xs : List Saved) (one : Saved) → AreOf values xs → one.value ≡ value_at values one.place → AreOf values (xs ++ one ∷ [])
of_more values [] one h is = (is, tt)
of_more values (x ∷ xs) one h is = (h.0, of_more values xs one h.1 is)

-- what is saved at a place in the list
abbrev pub saved_at : List Saved → ℕ → Saved
saved_at saved i = get_or saved i (record { place = 0; value = 0 })

pub next_saved : (saved : List Saved) (i : ℕ) → i < length saved → drop i saved ≡ saved_at saved i ∷ drop (i + 1) saved
next_saved saved i less = next_left saved i (saved_at saved i) less (get_or_default saved i (record { place = 0; value = 0 }) (saved_at saved i) less)

-- ---- the same places again

pub again_of : (values : List ℕ) (xs : List Saved) → AreOf values (map (saved_of values) xs)
again_of values [] = tt
again_of values (x ∷ xs) = (refl, again_of values xs)

pub again_within : (values : List ℕ) (count : ℕ) (xs : List Saved) → AreWithin count xs → AreWithin count (map (saved_of values) xs)
again_within values count [] h = tt
again_within values count (x ∷ xs) h = (h.0, again_within values count xs h.1)

pub again_saved : (values : List ℕ) (xs : List Saved) (p : ℕ) → IsSaved xs p → IsSaved (map (saved_of values) xs) p
again_saved values [] p h = h
again_saved values (x ∷ xs) p (inl is) = inl is
again_saved values (x ∷ xs) p (inr h) = inr (again_saved values xs p h)

pub saved_again : (values : List ℕ) (xs : List Saved) (p : ℕ) → IsSaved (map (saved_of values) xs) p → IsSaved xs p
saved_again values [] p h = h
saved_again values (x ∷ xs) p (inl is) = inl is
saved_again values (x ∷ xs) p (inr h) = inr (saved_again values xs p h)

-- ---- put back

pub record Putting (saved left : List Saved) (start now : List ℕ) : Type 0 where
  pub sized : length now ≡ length start
  pub within : AreWithin (length start) left
  pub of : (values : List ℕ) → Restores saved start values → AreOf values left
  pub rest : (values : List ℕ) → Restores saved start values → (p : ℕ) → IsSaved left p ⊎ (value_at now p ≡ value_at values p)

pub putting_begins : (saved : List Saved) (start : List ℕ) → AreWithin (length start) saved → Putting saved saved start start
putting_begins saved start within = record { sized = refl; within = within; of = λ values r. r.of; rest = λ values r. r.others }

pub putting_on : (saved left others : List Saved) (one : Saved) (start now : List ℕ) → left ≡ one ∷ others → Putting saved left start now → Putting saved others start (set now one.place one.value)
putting_on saved left others one start now e before = going (subst (λ left. Putting saved left start now) e before) where
  going : Putting saved (one ∷ others) start now → Putting saved others start (set now one.place one.value)
  going h = record {
    sized = length-set now one.place one.value ∙ h.sized;
    within = h.within.1;
    of = λ values r. (h.of values r).1;
    rest = λ values r p. elim (same_or_other p one.place) [
      | inl same ↦ inr (ap (λ q. value_at (set now one.place one.value) q) same ∙ value_here now one.place one.value (subst (λ count. one.place < count) (sym h.sized) h.within.0) ∙ (h.of values r).0 ∙ sym (ap (λ q. value_at values q) same))
      | inr differ ↦ elim (h.rest values r p) [
        | inl is ↦ elim is [ inl here ↦ absurd (differ (sym here)) | inr k ↦ inl k ]
        | inr same ↦ inr (value_there now one.place p one.value differ ∙ same)
      ]
    ];
  }

pub putting_ends : (saved left : List Saved) (start now : List ℕ) → left ≡ [] → Putting saved left start now → (values : List ℕ) → Restores saved start values → now ≡ values
putting_ends saved left start now e before = ends (subst (λ left. Putting saved left start now) e before) where
  ends : Putting saved [] start now → (values : List ℕ) → Restores saved start values → now ≡ values
  ends h values r = ext_get_or 0 now values (h.sized ∙ sym r.sized) (λ p less. elim (h.rest values r p) [ inl none ↦ absurd none | inr same ↦ same ])

-- ---- one place is saved

pub saves_one : (place mark : ℕ) (before : List ℕ) (saved : List Saved) → place < length before → value_at before place ≢ mark
    → SavesPlace place mark before (set before place mark) saved (saved ++ record { place = place; value = value_at before place } ∷ [])
saves_one place mark before saved within differ = record {
  saving = λ values s. record {
    sized = length-set before place mark ∙ s.sized;
    within = within_more (length values) saved one s.within (subst (λ count. place < count) s.sized within);
    of = of_more values saved one s.of (elim (s.others place) [ inl is ↦ absurd (differ (s.marked place is)) | inr same ↦ same ]);
    below = s.below;
    marked = λ p h. elim (same_or_other p place) [
      | inl same ↦ ap (λ q. value_at (set before place mark) q) same ∙ value_here before place mark within
      | inr other ↦ value_there before place p mark other ∙ s.marked p (elim (saved_cases saved one p h) [ inl k ↦ k | inr is ↦ absurd (other (sym is)) ])
    ];
    others = λ p. elim (same_or_other p place) [
      | inl same ↦ inl (saved_right saved (one ∷ []) p (inl (sym same)))
      | inr other ↦ elim (s.others p) [ inl is ↦ inl (saved_left saved (one ∷ []) p is) | inr same ↦ inr (value_there before place p mark other ∙ same) ]
    ];
  };
  kept = λ p h. saved_left saved (one ∷ []) p h;
  here = λ values s. saved_right saved (one ∷ []) place (inl refl);
  only = λ p h. saved_cases saved one p h;
} where
  one : Saved
  one = record { place = place; value = value_at before place }

pub saves_again : (place mark : ℕ) (before : List ℕ) (saved : List Saved) → value_at before place ≡ mark → SavesPlace place mark before before saved saved
saves_again place mark before saved same = record {
  saving = λ values s. s;
  kept = λ p h. h;
  here = λ values s. elim (s.others place) [ inl is ↦ is | inr is ↦ absurd (let e : value_at before place ≡ value_at values place = is in let below = s.below place in omega arith) ];
  only = λ p h. inl h;
}

-- ---- the places that ways write are saved part by part

pub saves_nothing : (mark : ℕ) (current : List ℕ) (saved : List Saved) → SavesMore NoEvent mark current current saved saved
saves_nothing mark current saved = record { saving = λ values s. s; kept = λ p h. h; all = λ values s p h. absurd h; only = λ p h. inl h }

pub saves_stop : (mark : ℕ) (current : List ℕ) (saved : List Saved) → SavesMore Stop mark current current saved saved
saves_stop mark current saved = record { saving = λ values s. s; kept = λ p h. h; all = λ values s p h. absurd h; only = λ p h. inl h }

pub saves_only : (event : Event) (place mark : ℕ) (before after : List ℕ) (saved more : List Saved) → place ≡ place_of event → SavesPlace place mark before after saved more → SavesMore (Only event) mark before after saved more
saves_only event place mark before after saved more is h = record {
  saving = h.saving;
  kept = h.kept;
  all = λ values s p e. subst (λ p. IsSaved more p) (is ∙ e) (h.here values s);
  only = λ p k. elim (h.only p k) [ inl old ↦ inl old | inr e ↦ inr (sym is ∙ e) ];
}

pub saves_then : (a b : Ways) (mark : ℕ) (before mid after : List ℕ) (saved more most : List Saved) → SavesMore a mark before mid saved more → SavesMore b mark mid after more most → SavesMore (Then a b) mark before after saved most
saves_then a b mark before mid after saved more most one two = record {
  saving = λ values s. two.saving values (one.saving values s);
  kept = λ p h. two.kept p (one.kept p h);
  all = λ values s p h. either values s p h;
  only = λ p h. elim (two.only p h) [ inl k ↦ elim (one.only p k) [ inl old ↦ inl old | inr w ↦ inr (inl w) ] | inr w ↦ inr (inr w) ];
} where
  either : (values : List ℕ) → Saving mark values before saved → (p : ℕ) → Writes a p ⊎ Writes b p → IsSaved most p
  either values s p (inl h) = two.kept p (one.all values s p h)
  either values s p (inr h) = two.all values (one.saving values s) p h

pub saves_either : (a b : Ways) (mark : ℕ) (before after : List ℕ) (saved more : List Saved) → SavesMore (Then a b) mark before after saved more → SavesMore (Either a b) mark before after saved more
saves_either a b mark before after saved more h = record { saving = h.saving; kept = h.kept; all = h.all; only = h.only }

pub saves_loop : (a b : Ways) (mark : ℕ) (before after : List ℕ) (saved more : List Saved) → SavesMore (Then a b) mark before after saved more → SavesMore (Loop a b) mark before after saved more
saves_loop a b mark before after saved more h = record { saving = h.saving; kept = h.kept; all = h.all; only = h.only }

-- ---- one after another

pub record SavesSo (list : List Made) (i mark : ℕ) (start now : List ℕ) (saved more : List Saved) : Type 0 where
  pub sized : length now ≡ length start
  pub rest : (after : List ℕ) (most : List Saved) → SavesMore (all_seen (map ways_seen (drop i list))) mark now after more most → SavesMore (all_seen (map ways_seen list)) mark start after saved most

pub saves_next : (list : List Made) (i : ℕ) (x : Made) (mark : ℕ) (start now new : List ℕ) (saved more most : List Saved) → drop i list ≡ x ∷ drop (i + 1) list → length new ≡ length now
    → SavesSo list i mark start now saved more → SavesMore (ways_seen x) mark now new more most → SavesSo list (i + 1) mark start new saved most
saves_next list i x mark start now new saved more most e sized so one = record {
  sized = sized ∙ so.sized;
  rest = λ after last rest. so.rest after last (subst (λ left. SavesMore (all_seen (map ways_seen left)) mark now after more last) (sym e)
      (saves_then (ways_seen x) (all_seen (map ways_seen (drop (i + 1) list))) mark now new after more most last one rest));
}

pub saves_ends : (list : List Made) (i mark : ℕ) (start now : List ℕ) (saved more : List Saved) → drop i list ≡ [] → SavesSo list i mark start now saved more → SavesMore (all_seen (map ways_seen list)) mark start now saved more
saves_ends list i mark start now saved more e so = so.rest now more (subst (λ left. SavesMore (all_seen (map ways_seen left)) mark now now more more) (sym e) (saves_nothing mark now more))

-- ---- all that two ways write

pub saving_begins : (mark : ℕ) (current : List ℕ) → ((p : ℕ) → value_at current p < mark) → Saving mark current current []
saving_begins mark current below = record { sized = refl; within = tt; of = tt; below = below; marked = λ p h. absurd h; others = λ p. inr refl }

pub saving_restores : (mark : ℕ) (values current : List ℕ) (saved : List Saved) → Saving mark values current saved → Restores saved current values
saving_restores mark values current saved s = record { sized = sym s.sized; of = s.of; others = s.others }

pub saving_within : (mark : ℕ) (values current : List ℕ) (saved : List Saved) → Saving mark values current saved → AreWithin (length current) saved
saving_within mark values current saved s = subst (λ count. AreWithin count saved) (sym s.sized) s.within

pub all_saved : (ways : Ways) (mark : ℕ) (before after : List ℕ) (saved : List Saved) → ((p : ℕ) → value_at before p < mark) → SavesMore ways mark before after [] saved → Saves ways before saved
all_saved ways mark before after saved below h =
    let s = h.saving before (saving_begins mark before below) in
    record {
      within = s.within;
      of = s.of;
      all = λ p. elim (saved_or_not saved p) [ inl is ↦ inl is | inr never ↦ inr (λ w. never (h.all before (saving_begins mark before below) p w)) ];
      only = λ p k. elim (h.only p k) [ inl none ↦ absurd none | inr w ↦ w ];
    }
