-- What lies ahead of a place on the ways through a body, and marks that cover it.
use Rattle.std.proofs.Common.{ℕ, Bool, ◌++◌, ap, subst, ◌∙◌}
use Rattle.std.proofs.lemmas.List.{append_assoc}
use Rattle.mpl_mean.specs.Pending.Looseness.{Event, Forces, Loose, Path}
use Rattle.mpl_mean.specs.Pending.Paths.{Ways, NoEvent, Then, Either, Loop, nothing, in_turn, one_way, other_way, leaves, goes_round, UpTo, in_first, in_second, in_one, in_other, in_test, in_body, in_next_round}
use Rattle.mpl_checked.proofs.Covering.{Covers}

-- each path into these is one into those
abbrev pub AreAhead : Ways → Ways → Type 0
AreAhead new old = (event : Event) (path : Path) → UpTo event new path → UpTo event old path

pub covers_ahead : {marks : ℕ → Bool} {loose : Loose} (new old : Ways) → AreAhead new old → Covers marks old loose → Covers marks new loose
covers_ahead new old ahead c = record { marked = λ node variable path upto e. c.marked node variable path (ahead (Forces node variable) path upto) e }

joined : (event : Event) (ways : Ways) (p q r : Path) → UpTo event ways ((p ++ q) ++ r) → UpTo event ways (p ++ (q ++ r))
joined event ways p q r = subst (UpTo event ways) (append_assoc p q r)

pub skips : (rest : Ways) → AreAhead rest (Then NoEvent rest)
skips rest event path u = in_second nothing u

pub in_turn_then : (first second rest : Ways) → AreAhead (Then first (Then second rest)) (Then (Then first second) rest)
in_turn_then first second rest event path (in_first u) = in_first (in_first u)
in_turn_then first second rest event path (in_second t (in_first u)) = in_first (in_second t u)
in_turn_then first second rest event path (in_second {p = p} t (in_second {p = q} {q = r} s u)) = joined event (Then (Then first second) rest) p q r (in_second (in_turn t s) u)

pub one_then : (one other rest : Ways) → AreAhead (Then one rest) (Then (Either one other) rest)
one_then one other rest event path (in_first u) = in_first (in_one u)
one_then one other rest event path (in_second t u) = in_second (one_way t) u

pub other_then : (one other rest : Ways) → AreAhead (Then other rest) (Then (Either one other) rest)
other_then one other rest event path (in_first u) = in_first (in_other u)
other_then one other rest event path (in_second t u) = in_second (other_way t) u

-- behind the test of a loop it goes on, or round once more
pub loop_then : (test body rest : Ways) → AreAhead (Then test (Either rest (Then body (Then (Loop test body) rest)))) (Then (Loop test body) rest)
loop_then test body rest event path (in_first u) = in_first (in_test u)
loop_then test body rest event path (in_second t (in_one u)) = in_second (leaves t) u
loop_then test body rest event path (in_second t (in_other (in_first u))) = in_first (in_body t u)
loop_then test body rest event path (in_second t (in_other (in_second s (in_first u)))) = in_first (in_next_round t s u)
loop_then test body rest event path (in_second {p = p} t (in_other (in_second {p = q} s (in_second {p = l} {q = r} v u)))) =
    subst (UpTo event (Then (Loop test body) rest)) (append_assoc p (q ++ l) r ∙ ap (λ path. p ++ path) (append_assoc q l r)) (in_second (goes_round t s v) u)

pub no_use : {event : Event} {path : Path} → UpTo event NoEvent path → ⊥
no_use h = elim h [ ]

-- nothing comes behind all
pub alone : (ways : Ways) → AreAhead (Then ways NoEvent) ways
alone ways event path (in_first u) = u
alone ways event path (in_second t u) = absurd (no_use u)
