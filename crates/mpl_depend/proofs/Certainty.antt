-- What is certain stays so with less before and more behind, and is complete.
use Rattle.std.proofs.Common.{◌≡◌, ◌+◌, ℕ, true, List, ◌++◌, ap, sym, true≢false, ◌∙◌}
use Rattle.std.specs.List.{Contains}
use Rattle.mpl_mean.specs.Pending.Looseness.{Event, Loosens, Settles, Copies, Forces, Path}
use Rattle.mpl_mean.specs.Pending.Paths.{Ways, NoEvent, Only, Then, Either, Loop, Stop, Through, nothing, only, in_turn, one_way, other_way, leaves, goes_round, UpTo, here, in_first, in_second, in_one, in_other, in_test, in_body, in_next_round}
use Rattle.mpl_depend.specs.Internal.Carried.{AreIn, Places, no_place, path_on}
use Rattle.mpl_depend.specs.Internal.Certain.{Certain, IsMarked}
use Rattle.mpl_depend.proofs.Carrying.{carried_both, carried_more, event_more, event_source}

marked_less : (event : Event) (few many : Places) (marks : List ℕ) → AreIn few many → IsMarked event many marks → IsMarked event few marks
marked_less (Loosens n) few many marks less h = tt
marked_less (Settles n) few many marks less h = tt
marked_less (Copies n j) few many marks less h = tt
marked_less (Forces node n) few many marks less h = λ e. h (less (n + 1) e)

-- from less, to more
pub certain_more : (marks : List ℕ) (ways : Ways) (from few to many : Places) → AreIn few from → AreIn to many → Certain marks ways from to → Certain marks ways few many
certain_more marks NoEvent from few to many down up h = λ p e. up p (h p (down p e))
certain_more marks (Only event) from few to many down up h = (λ p e. up p (h.0 p (event_more event few from down p e)), marked_less event few from marks down h.1)
certain_more marks (Then first second) from few to many down up h = record {
  mid = h.mid;
  one = certain_more marks first from few h.mid h.mid down (λ p e. e) h.one;
  other = certain_more marks second h.mid h.mid to many (λ p e. e) up h.other;
}
certain_more marks (Either one other) from few to many down up h = (certain_more marks one from few to many down up h.0, certain_more marks other from few to many down up h.1)
certain_more marks (Loop test body) from few to many down up h = record {
  head = h.head;
  mid = h.mid;
  comes = λ p e. h.comes p (down p e);
  through_test = h.through_test;
  leaves = λ p e. up p (h.leaves p e);
  through_body = h.through_body;
}
certain_more marks Stop from few to many down up h = tt

-- where nothing comes, nothing is left to find
pub nothing_certain : (marks : List ℕ) (ways : Ways) → Certain marks ways no_place no_place
nothing_certain marks NoEvent = λ p e. e
nothing_certain marks (Only event) = (λ p e. let from = event_source event no_place p e in from.1, no_mark event) where
  no_mark : (event : Event) → IsMarked event no_place marks
  no_mark (Loosens n) = tt
  no_mark (Settles n) = tt
  no_mark (Copies n j) = tt
  no_mark (Forces node n) = λ e. absurd (true≢false (sym e))
nothing_certain marks (Then first second) = record { mid = no_place; one = nothing_certain marks first; other = nothing_certain marks second }
nothing_certain marks (Either one other) = (nothing_certain marks one, nothing_certain marks other)
nothing_certain marks (Loop test body) = record {
  head = no_place;
  mid = no_place;
  comes = λ p e. e;
  through_test = nothing_certain marks test;
  leaves = λ p e. e;
  through_body = nothing_certain marks body;
}
nothing_certain marks Stop = tt

-- from nothing to anything
pub nothing_comes : (marks : List ℕ) (ways : Ways) (to : Places) → Certain marks ways no_place to
nothing_comes marks ways to = certain_more marks ways no_place no_place no_place to (λ p e. e) (λ p e. absurd (true≢false (sym e))) (nothing_certain marks ways)

-- ---- what is certain is complete

-- what a path in turn carries, part by part
in_parts : (p q : Path) (from mid : Places) (n : ℕ) → AreIn (path_on p from) mid → path_on (p ++ q) from n ≡ true → path_on q mid n ≡ true
in_parts p q from mid n first h = carried_more q (path_on p from) mid n first (sym (ap (λ (places : Places). places n) (carried_both p q from)) ∙ h)

module _ (marks : List ℕ) where
  comes_again : (test body : Ways) (from to : Places) (h : Certain marks (Loop test body) from to) → Certain marks (Loop test body) h.head to
  comes_again test body from to h = record { head = h.head; mid = h.mid; comes = λ p e. e; through_test = h.through_test; leaves = h.leaves; through_body = h.through_body }

  pub reached : {ways : Ways} {path : Path} (from to : Places) → Certain marks ways from to → Through ways path → AreIn (path_on path from) to
  reached from to h nothing = h
  reached from to h only = h.0
  reached from to h (in_turn {p = p} {q = q} t u) = λ n e. reached h.mid to h.other u n (in_parts p q from h.mid n (reached from h.mid h.one t) e)
  reached from to h (one_way t) = reached from to h.0 t
  reached from to h (other_way t) = reached from to h.1 t
  reached from to h (leaves {p = p} t) = λ n e. h.leaves n (reached h.head h.mid h.through_test t n (carried_more p from h.head n h.comes e))
  reached from to h (goes_round {test = test} {body = body} {p = p} {q = q} {r = r} t u rest) =
      let before : AreIn (path_on p from) h.mid = λ n e. reached h.head h.mid h.through_test t n (carried_more p from h.head n h.comes e) in
      λ n e. reached h.head to (comes_again test body from to h) rest n (in_parts q r h.mid h.head n (reached h.mid h.head h.through_body u) (in_parts p (q ++ r) from h.mid n before e))

  through_test : {p : Path} (test body : Ways) (from to : Places) (h : Certain marks (Loop test body) from to) → Through test p → AreIn (path_on p from) h.mid
  through_test {p = p} test body from to h t = λ n e. reached h.head h.mid h.through_test t n (carried_more p from h.head n h.comes e)

  pub met : (node variable : ℕ) {ways : Ways} {path : Path} (from to : Places) → Certain marks ways from to → UpTo (Forces node variable) ways path → path_on path from (variable + 1) ≡ true → Contains marks node
  met node variable from to h here e = h.1 e
  met node variable from to h (in_first u) e = met node variable from h.mid h.one u e
  met node variable from to h (in_second {p = p} {q = q} t u) e = met node variable h.mid to h.other u (in_parts p q from h.mid (variable + 1) (reached from h.mid h.one t) e)
  met node variable from to h (in_one u) e = met node variable from to h.0 u e
  met node variable from to h (in_other u) e = met node variable from to h.1 u e
  met node variable from to h (in_test {p = p} u) e = met node variable h.head h.mid h.through_test u (carried_more p from h.head (variable + 1) h.comes e)
  met node variable from to h (in_body {test = test} {body = body} {p = p} {q = q} t u) e =
      met node variable h.mid h.head h.through_body u (in_parts p q from h.mid (variable + 1) (through_test test body from to h t) e)
  met node variable from to h (in_next_round {test = test} {body = body} {p = p} {q = q} {r = r} t u rest) e =
      met node variable h.head to (comes_again test body from to h) rest
      (in_parts q r h.mid h.head (variable + 1) (reached h.mid h.head h.through_body u) (in_parts p (q ++ r) from h.mid (variable + 1) (through_test test body from to h t) e))
