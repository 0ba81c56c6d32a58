-- The rounds of a loop, one behind another.
use Rattle.std.proofs.Common.{◌≡◌, ◌+◌, ℕ, true, [], ◌++◌, refl, ap, sym, subst, ◌∙◌}
use Rattle.std.proofs.lemmas.List.{append-nil, append_assoc}
use Rattle.mpl_mean.specs.Pending.Looseness.{Event, Forces, Path}
use Rattle.mpl_mean.specs.Pending.Paths.{Ways, NoEvent, Then, Loop, Through, nothing, in_turn, leaves, goes_round, UpTo, in_first, in_second, in_test, in_body, in_next_round}
use Rattle.mpl_depend.specs.Internal.Carried.{Places, path_on}
use Rattle.mpl_depend.specs.Internal.Walking.{Meets, Reaches}
use Rattle.mpl_depend.proofs.Walks.{meets_both, reaches_both}

-- any number of rounds
abbrev pub Rounds : Ways → Ways → Ways
Rounds test body = Loop NoEvent (Then test body)

-- ---- rounds and the loop

no_use : {A : Type 0} {event : Event} {path : Path} → UpTo event NoEvent path → A
no_use h = elim h [ ]

nothing_through : {path : Path} → Through NoEvent path → path ≡ []
nothing_through nothing = refl

-- one more round
one_more : {test body : Ways} {p : Path} (r : Path) → Through (Rounds test body) p → Through (Then test body) r → Through (Rounds test body) (p ++ r)
one_more {test} {body} r (leaves {p = p} none) round =
    subst (λ path. Through (Rounds test body) path) (append-nil r ∙ ap (λ p. p ++ r) (sym (nothing_through none))) (goes_round nothing round (leaves nothing))
one_more {test} {body} r (goes_round {p = p} {q = q} {r = rest} none first others) round =
    subst (λ path. Through (Rounds test body) path) (sym (append_assoc q rest r) ∙ ap (λ p. (p ++ (q ++ rest)) ++ r) (sym (nothing_through none))) (goes_round nothing first (one_more r others round))

-- the rounds, and then the test once more
then_leaves : {test body : Ways} {p : Path} (r : Path) → Through (Rounds test body) p → Through test r → Through (Loop test body) (p ++ r)
then_leaves {test} {body} r (leaves {p = p} none) last = subst (λ path. Through (Loop test body) path) (ap (λ p. p ++ r) (sym (nothing_through none))) (leaves last)
then_leaves {test} {body} r (goes_round {p = p} {r = rest} none (in_turn {p = a} {q = b} first second) others) last =
    subst (λ path. Through (Loop test body) path)
    (sym (append_assoc a b (rest ++ r)) ∙ sym (append_assoc (a ++ b) rest r) ∙ ap (λ p. (p ++ ((a ++ b) ++ rest)) ++ r) (sym (nothing_through none)))
    (goes_round first second (then_leaves r others last))

-- a use in a round is one in the loop
in_round : {event : Event} {test body : Ways} {path : Path} → UpTo event (Then test body) path → UpTo event (Loop test body) path
in_round (in_first u) = in_test u
in_round (in_second t u) = in_body t u

then_meets : {event : Event} {test body : Ways} {p : Path} (r : Path) → Through (Rounds test body) p → UpTo event (Then test body) r → UpTo event (Loop test body) (p ++ r)
then_meets {event} {test} {body} r (leaves {p = p} none) at_use = subst (λ path. UpTo event (Loop test body) path) (ap (λ p. p ++ r) (sym (nothing_through none))) (in_round at_use)
then_meets {event} {test} {body} r (goes_round {p = p} {r = rest} none (in_turn {p = a} {q = b} first second) others) at_use =
    subst (λ path. UpTo event (Loop test body) path)
    (sym (append_assoc a b (rest ++ r)) ∙ sym (append_assoc (a ++ b) rest r) ∙ ap (λ p. (p ++ ((a ++ b) ++ rest)) ++ r) (sym (nothing_through none)))
    (in_next_round first second (then_meets r others at_use))

rounds_meet : {event : Event} {test body : Ways} {path : Path} → UpTo event (Rounds test body) path → UpTo event (Loop test body) path
rounds_meet (in_test u) = no_use u
rounds_meet {event} {test} {body} (in_body {p = p} {q = q} none u) = subst (λ path. UpTo event (Loop test body) path) (ap (λ p. p ++ q) (sym (nothing_through none))) (in_round u)
rounds_meet {event} {test} {body} (in_next_round {p = p} {r = r} none (in_turn {p = a} {q = b} first second) u) =
    subst (λ path. UpTo event (Loop test body) path) (sym (append_assoc a b r) ∙ ap (λ p. p ++ ((a ++ b) ++ r)) (sym (nothing_through none))) (in_next_round first second (rounds_meet u))

module _ (test body : Ways) (start : Places) where
  abbrev pub Head : ℕ → Type 0
  Head = Reaches (Rounds test body) start

  -- what a round brings to the head from what is there
  pub to_head : (places : Places) (n : ℕ) → ((m : ℕ) → places m ≡ true → Head m) → Reaches (Then test body) places n → Head n
  to_head places n sound r = more (reaches_both (Rounds test body) (Then test body) start places n sound r) where
    more : Reaches (Then (Rounds test body) (Then test body)) start n → Head n
    more r = by_through r.through r.is_there where
      by_through : {path : Path} → Through (Then (Rounds test body) (Then test body)) path → path_on path start n ≡ true → Head n
      by_through (in_turn {p = p} {q = q} t u) e = record { path = p ++ q; through = one_more q t u; is_there = e }

  pub to_end : (places : Places) (n : ℕ) → ((m : ℕ) → places m ≡ true → Head m) → Reaches test places n → Reaches (Loop test body) start n
  to_end places n sound r = more (reaches_both (Rounds test body) test start places n sound r) where
    more : Reaches (Then (Rounds test body) test) start n → Reaches (Loop test body) start n
    more r = by_through r.through r.is_there where
      by_through : {path : Path} → Through (Then (Rounds test body) test) path → path_on path start n ≡ true → Reaches (Loop test body) start n
      by_through (in_turn {p = p} {q = q} t u) e = record { path = p ++ q; through = then_leaves q t u; is_there = e }

  pub to_use : (places : Places) (node : ℕ) → ((m : ℕ) → places m ≡ true → Head m) → Meets (Then test body) places node → Meets (Loop test body) start node
  to_use places node sound r = more (meets_both (Rounds test body) (Then test body) start places node sound r) where
    more : Meets (Then (Rounds test body) (Then test body)) start node → Meets (Loop test body) start node
    more r = by_place r.variable r.leads r.is_loose where
      by_place : (variable : ℕ) {path : Path} → UpTo (Forces node variable) (Then (Rounds test body) (Then test body)) path → path_on path start (variable + 1) ≡ true → Meets (Loop test body) start node
      by_place variable (in_first {p = p} u) e = record { variable = variable; path = p; leads = rounds_meet u; is_loose = e }
      by_place variable (in_second {p = p} {q = q} t u) e = record { variable = variable; path = p ++ q; leads = then_meets q t u; is_loose = e }

  pub at_start : (n : ℕ) → start n ≡ true → Head n
  at_start n h = record { path = []; through = leaves nothing; is_there = h }
