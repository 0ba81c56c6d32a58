-- The uses that are found in a body are those that the definition marks.
use Rattle.std.proofs.Common.{◌≡◌, ◌<◌, ◌≤◌, ℕ, zero, suc, Bool, true, false, List, [], ◌∷◌, inl, inr, refl, ap, sym, subst, true≢false, lt-ltb, ◌∙◌, arith}
use Rattle.std.specs.List.{Contains}
use Rattle.mpl_mean.specs.Pending.Looseness.{none_loose}
use Rattle.mpl_mean.specs.Pending.MayBePending.{AnyMarked}
use Rattle.mpl_mean.specs.Pending.Paths.{Marked, Ways}
use Rattle.mpl_depend.specs.Internal.Bodies.{Adds}
use Rattle.mpl_depend.specs.Internal.Carried.{Places}
use Rattle.mpl_depend.specs.Internal.Ranks.{AreRanked, Comes, Ranks, behind, is_by, is_some, loose, loose_by, value_at}
use Rattle.mpl_depend.specs.Internal.Reached.{Finds, Found, IsUsed}
use Rattle.mpl_depend.specs.Internal.Walking.{Meets}
use Rattle.mpl_depend.specs.declared.values.Edge.{Edge}
use Rattle.mpl_depend.specs.declared.values.Use.{Use}
use Rattle.mpl_depend.proofs.Carrying.{Shows, path_shown}
use Rattle.mpl_depend.proofs.Certainty.{met}

nothing_there : {X : Type 0} (x : X) → Contains [] x → ⊥
nothing_there x h = absurd (let less : h.0 < 0 = h.1 in omega arith)

by_itself : (rank : ℕ) → is_some rank ≡ true → is_by (suc rank) rank ≡ true
by_itself zero some = absurd (true≢false (sym some))
by_itself (suc rank) some = lt-ltb rank (suc (suc rank)) (omega arith)

-- a path comes to the body, and no variable is loose
met_marked : (ways : Ways) (places : Places) (node : ℕ) → Shows places none_loose → Meets ways places node → Marked ways node
met_marked ways places node start m =
    let shown = path_shown m.path places none_loose start in
    record { variable = m.variable; path = m.path; leads = m.leads; is_loose = sym (shown.same m.variable) ∙ m.is_loose }

module _ (ways : Ways) (high : ℕ) (edges : List Edge) (uses : List Use) (marks more : List ℕ) (f : Found ways high edges uses) (g : Finds high edges uses marks more) where
  abbrev ranks : Ranks
  ranks = value_at g.ranks

  -- nothing comes to what is known
  none : ranks 0 ≡ 0
  none = by_rank (ranks 0) refl where
    from_edge : Comes ranks edges 0 → ⊥
    from_edge c = elim (f.traced.new c.edge c.there) [
      | inl old ↦ nothing_there c.edge old
      | inr at ↦ absurd (let above : 2 ≤ c.edge.into = at.0 in let into = c.into in omega arith)
    ]

    by_rank : (rank : ℕ) → ranks 0 ≡ rank → ranks 0 ≡ 0
    by_rank zero e = e
    by_rank (suc rank) e = elim (g.reached.sound 0 (ap is_some e)) [
      | inl same ↦ absurd (let e : 0 ≡ 1 = same in omega arith)
      | inr c ↦ absurd (from_edge c)
    ]

  ranked : AreRanked ranks 2 high edges
  ranked value low less some = elim (g.reached.sound value some) [
    | inl same ↦ absurd (let e : value ≡ 1 = same in omega arith)
    | inr c ↦ c
  ]

  start : (is_loose : ℕ → Bool) → is_loose 1 ≡ true → is_loose 0 ≡ false → Shows (λ place. is_loose (ranks (value_at f.before place))) none_loose
  start is_loose one known = record {
    comes = ap (λ value. is_loose (ranks value)) f.at_start ∙ ap is_loose g.reached.first ∙ one;
    same = λ n. ap (λ value. is_loose (ranks value)) (f.others n) ∙ ap is_loose none ∙ known;
  }

  marked : (node rank : ℕ) (made : Use) → made.node ≡ node → Meets ways (loose_by ranks (suc rank) f.before) made.node → Marked ways node
  marked node rank made is m =
      subst (λ node. Marked ways node) is (met_marked ways (loose_by ranks (suc rank) f.before) made.node (start (is_by (suc rank)) (lt-ltb 0 (suc rank) (omega arith)) refl) m)

  sound : (node : ℕ) → IsUsed g.ranks uses node → Marked ways node
  sound node u = elim (f.traced.uses_sound ranks (suc (ranks u.made.value)) none ranked u.made u.there) [
    | inl old ↦ absurd (nothing_there u.made old)
    | inr meets ↦ marked node (ranks u.made.value) u.made u.is_node (meets (by_itself (ranks u.made.value) u.loose))
  ]

  complete : (node : ℕ) → Marked ways node → Contains more node
  complete node m =
      let shown = path_shown m.path (loose ranks f.before) none_loose (start is_some refl refl) in
      met more node m.variable (loose ranks f.before) (behind f.comes (loose ranks f.after)) (f.traced.settles ranks more none g.reached.closed g.marks.complete) m.leads (shown.same m.variable ∙ m.is_loose)

  pub found_adds : Adds (ways ∷ []) marks more
  found_adds = record {
    kept = g.marks.kept;
    sound = λ node h. elim (g.marks.sound node h) [ inl old ↦ inl old | inr u ↦ inr (inl (sound node u)) ];
    complete = λ node h. complete node (only_one node h);
  } where
    only_one : (node : ℕ) → AnyMarked (ways ∷ []) node → Marked ways node
    only_one node (inl h) = h
    only_one node (inr h) = absurd h

pub edges_below : (ways : Ways) (high : ℕ) (edges : List Edge) (uses : List Use) → Found ways high edges uses → (edge : Edge) → Contains edges edge → edge.into < high
edges_below ways high edges uses f edge h = elim (f.traced.new edge h) [ inl old ↦ absurd (nothing_there edge old) | inr at ↦ at.1 ]
