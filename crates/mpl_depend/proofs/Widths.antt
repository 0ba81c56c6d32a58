-- Numbers above those of all variables.
use Rattle.std.proofs.Common.{ℕ, ◌<◌, ◌≤◌, ◌+◌, arith}
use Rattle.mpl_mean.specs.Pending.Looseness.{Loosens, Settles, Copies, Forces}
use Rattle.mpl_mean.specs.Pending.Paths.{Ways, NoEvent, Only, Then, Either, Loop, Stop}
use Rattle.mpl_depend.specs.Internal.Walking.{Spans}

pub spans_nothing : (count : ℕ) → Spans count NoEvent
spans_nothing count = record { within = λ more le. tt }

pub spans_stop : (count : ℕ) → Spans count Stop
spans_stop count = record { within = λ more le. tt }

pub spans_then : (a b : Ways) (m n count : ℕ) → Spans m a → Spans n b → m ≤ count → n ≤ count → Spans count (Then a b)
spans_then a b m n count one other left right = record { within = λ more le. (one.within more (omega arith), other.within more (omega arith)) }

pub spans_either : (a b : Ways) (m n count : ℕ) → Spans m a → Spans n b → m ≤ count → n ≤ count → Spans count (Either a b)
spans_either a b m n count one other left right = record { within = λ more le. (one.within more (omega arith), other.within more (omega arith)) }

pub spans_loop : (a b : Ways) (m n count : ℕ) → Spans m a → Spans n b → m ≤ count → n ≤ count → Spans count (Loop a b)
spans_loop a b m n count one other left right = record { within = λ more le. (one.within more (omega arith), other.within more (omega arith)) }

pub spans_loosens : (variable count : ℕ) → variable < count → Spans count (Only (Loosens variable))
spans_loosens variable count above = record { within = λ more le. let less : variable + 1 < more = omega arith in less }

pub spans_settles : (variable count : ℕ) → variable < count → Spans count (Only (Settles variable))
spans_settles variable count above = record { within = λ more le. let less : variable + 1 < more = omega arith in less }

pub spans_copies : (into from m n count : ℕ) → into < m → from < n → m ≤ count → n ≤ count → Spans count (Only (Copies into from))
spans_copies into from m n count one other left right = record { within = λ more le. let a : into + 1 < more = omega arith in let b : from + 1 < more = omega arith in (a, b) }

pub spans_forces : (node variable count : ℕ) → variable < count → Spans count (Only (Forces node variable))
spans_forces node variable count above = record { within = λ more le. let less : variable + 1 < more = omega arith in less }
