-- The serials that are in, by their marks.
use Rattle.std.proofs.Common.{◌≡◌, ℕ, zero, suc, ◌+◌, ◌<◌, ◌≤◌, Bool, true, false, List, [], ◌∷◌, ◌++◌, length, take, ◌↔◌, refl, ap, sym, subst, ◌∙◌, arith}
use Rattle.std.specs.Prelude.{Some, slice_get, slice_set, slice_index, slice_index_or}
use Rattle.std.specs.List.{sum_by, items_where_true, range_with_len, insert, remove, Contains}
use Rattle.std.specs.List.Sorted.{IsStrictlyIncreasing}
use Rattle.std.proofs.lemmas.List.Sums.{sum_by-cons, sum_by-set}
use Rattle.std.proofs.lemmas.Option.{slice_get-get_or, slice_get_within, get_or_from_slice_get}
use Rattle.mdf_order.specs.declared.spot.Spot.{Spot}
use Rattle.mdf_order.specs.InOrder.{serials_in}
use Rattle.mdf_order.specs.Ranks.{rank}
use Rattle.mdf_order.specs.Internal.Marks.{mark_count}
use Rattle.mdf_order.specs.Internal.Spots.{IsSpot}

-- the serials that are in, if the first mark is that of a serial
abbrev serials_from : ℕ → List Bool → List ℕ
serials_from first [] = []
serials_from first (true ∷ marks) = first ∷ serials_from (first + 1) marks
serials_from first (false ∷ marks) = serials_from (first + 1) marks

-- how many before a serial are in
abbrev before : List Bool → ℕ → ℕ
before [] serial = 0
before (mark ∷ marks) zero = 0
before (true ∷ marks) (suc serial) = suc (before marks serial)
before (false ∷ marks) (suc serial) = before marks serial

from-first : (first : ℕ) (marks : List Bool) → items_where_true marks (range_with_len first (length marks)) ≡ serials_from first marks
from-first first [] = refl
from-first first (true ∷ marks) = ap (λ serials. first ∷ serials) (from-first (first + 1) marks)
from-first first (false ∷ marks) = from-first (first + 1) marks

length-from : (first : ℕ) (marks : List Bool) → length (serials_from first marks) ≡ sum_by mark_count marks
length-from first [] = refl
length-from first (true ∷ marks) = omega (arith, length-from (first + 1) marks, sum_by-cons mark_count true marks)
length-from first (false ∷ marks) = omega (arith, length-from (first + 1) marks, sum_by-cons mark_count false marks)

-- as many as there are marks of serials that are in
pub length-serials_in : (marks : List Bool) → length (serials_in marks) ≡ sum_by mark_count marks
length-serials_in marks = ap length (from-first 0 marks) ∙ length-from 0 marks

length-taken : (first : ℕ) (marks : List Bool) (serial : ℕ) → length (serials_from first (take serial marks)) ≡ before marks serial
length-taken first [] zero = refl
length-taken first [] (suc serial) = refl
length-taken first (mark ∷ marks) zero = refl
length-taken first (true ∷ marks) (suc serial) = ap suc (length-taken (first + 1) marks serial)
length-taken first (false ∷ marks) (suc serial) = length-taken (first + 1) marks serial

rank-before : (marks : List Bool) (serial : ℕ) → rank marks serial ≡ before marks serial
rank-before marks serial = ap length (from-first 0 (take serial marks)) ∙ length-taken 0 marks serial

-- a serial that is in stands at its rank
get-before : (first : ℕ) (marks : List Bool) (serial : ℕ) → slice_get marks serial ≡ Some true
    → slice_get (serials_from first marks) (before marks serial) ≡ Some (first + serial)
get-before first [] serial marked = absurd (cc)
get-before first (true ∷ marks) zero marked = ap Some (omega arith)
get-before first (false ∷ marks) zero marked = absurd (cc)
get-before first (true ∷ marks) (suc serial) marked =
    let there : first + 1 + serial ≡ first + suc serial = omega arith in get-before (first + 1) marks serial marked ∙ ap Some there
get-before first (false ∷ marks) (suc serial) marked =
    let there : first + 1 + serial ≡ first + suc serial = omega arith in get-before (first + 1) marks serial marked ∙ ap Some there

pub serial-at-rank : (marks : List Bool) (serial : ℕ) → slice_get marks serial ≡ Some true → slice_get (serials_in marks) (rank marks serial) ≡ Some serial
serial-at-rank marks serial marked =
    let there : 0 + serial ≡ serial = omega arith in
    ap (slice_get (serials_in marks)) (rank-before marks serial)
    ∙ ap (λ serials. slice_get serials (before marks serial)) (from-first 0 marks)
    ∙ get-before 0 marks serial marked ∙ ap Some there

-- what stands at a place is in, and has that rank
from-place : (first : ℕ) (marks : List Bool) (place serial : ℕ) → slice_get (serials_from first marks) place ≡ Some serial
    → (at : ℕ) × (serial ≡ first + at) × (slice_get marks at ≡ Some true) × (place ≡ before marks at)
from-place first [] place serial here = absurd (cc)
from-place first (true ∷ marks) zero serial here = let same : serial ≡ first = cc in (0, omega (arith, same), refl, refl)
from-place first (true ∷ marks) (suc place) serial here =
    let later = from-place (first + 1) marks place serial here in (suc later.0, omega (arith, later.1), later.2, ap suc later.3)
from-place first (false ∷ marks) place serial here =
    let later = from-place (first + 1) marks place serial here in (suc later.0, omega (arith, later.1), later.2, later.3)

pub rank-of_place : (marks : List Bool) (place serial : ℕ) → slice_get (serials_in marks) place ≡ Some serial
    → (slice_get marks serial ≡ Some true) × (rank marks serial ≡ place)
rank-of_place marks place serial here =
    let found = from-place 0 marks place serial (ap (λ serials. slice_get serials place) (sym (from-first 0 marks)) ∙ here) in
    let same : serial ≡ found.0 = omega (arith, found.1) in
    (ap (slice_get marks) same ∙ found.2, rank-before marks serial ∙ ap (before marks) same ∙ sym found.3)

pub in-marked : (marks : List Bool) (serial : ℕ) → Contains (serials_in marks) serial ↔ (slice_get marks serial ≡ Some true)
in-marked marks serial = (
  λ has. (rank-of_place marks has.0 serial (slice_get-get_or (serials_in marks) has.0 serial has.1 ∙ ap Some has.2)).0,
  λ marked.
      let stands = serial-at-rank marks serial marked in
      (rank marks serial, slice_get_within (serials_in marks) (rank marks serial) serial stands, get_or_from_slice_get (serials_in marks) (rank marks serial) serial serial stands),
)

-- they rise
from-low : (first : ℕ) (marks : List Bool) (place : ℕ) → place < length (serials_from first marks) → first ≤ slice_index (serials_from first marks) place
from-low first [] place within = absurd (omega arith)
from-low first (true ∷ marks) zero within = omega arith
from-low first (true ∷ marks) (suc place) within = omega (arith, from-low (first + 1) marks place (omega arith))
from-low first (false ∷ marks) place within = omega (arith, from-low (first + 1) marks place within)

from-rising : (first : ℕ) (marks : List Bool) (place : ℕ) → suc place < length (serials_from first marks)
    → slice_index (serials_from first marks) place < slice_index (serials_from first marks) (suc place)
from-rising first [] place within = absurd (omega arith)
from-rising first (true ∷ marks) zero within = omega (arith, from-low (first + 1) marks 0 (omega arith))
from-rising first (true ∷ marks) (suc place) within = from-rising (first + 1) marks place (omega arith)
from-rising first (false ∷ marks) place within = from-rising (first + 1) marks place within

pub serials-rise : (marks : List Bool) → IsStrictlyIncreasing (serials_in marks)
serials-rise marks =
    subst IsStrictlyIncreasing (sym (from-first 0 marks))
    (λ place within. let next : suc place ≡ place + 1 = omega arith in rw (← next) (from-rising 0 marks place (omega arith)))

from-added : (first : ℕ) (marks : List Bool) → serials_from first (marks ++ false ∷ []) ≡ serials_from first marks
from-added first [] = refl
from-added first (true ∷ marks) = ap (λ serials. first ∷ serials) (from-added (first + 1) marks)
from-added first (false ∷ marks) = from-added (first + 1) marks

-- one more serial, which isn't in
pub serials-added : (marks : List Bool) → serials_in (marks ++ false ∷ []) ≡ serials_in marks
serials-added marks = from-first 0 (marks ++ false ∷ []) ∙ from-added 0 marks ∙ sym (from-first 0 marks)

from-inserted : (first : ℕ) (marks : List Bool) (serial : ℕ) → slice_get marks serial ≡ Some false
    → serials_from first (slice_set marks serial true) ≡ insert (serials_from first marks) (before marks serial) (first + serial)
from-inserted first [] serial out = absurd (cc)
from-inserted first (true ∷ marks) zero out = absurd (cc)
from-inserted first (false ∷ marks) zero out = ap (λ n. n ∷ serials_from (first + 1) marks) (omega arith)
from-inserted first (true ∷ marks) (suc serial) out =
    let there : first + 1 + serial ≡ first + suc serial = omega arith in
    ap (λ serials. first ∷ serials) (from-inserted (first + 1) marks serial out ∙ ap (insert (serials_from (first + 1) marks) (before marks serial)) there)
from-inserted first (false ∷ marks) (suc serial) out =
    let there : first + 1 + serial ≡ first + suc serial = omega arith in
    from-inserted (first + 1) marks serial out ∙ ap (insert (serials_from (first + 1) marks) (before marks serial)) there

-- a serial comes in
pub serials-inserted : (marks : List Bool) (serial : ℕ) → slice_get marks serial ≡ Some false
    → serials_in (slice_set marks serial true) ≡ insert (serials_in marks) (rank marks serial) serial
serials-inserted marks serial out =
    let there : 0 + serial ≡ serial = omega arith in
    from-first 0 (slice_set marks serial true)
    ∙ from-inserted 0 marks serial out
    ∙ ap (insert (serials_from 0 marks) (before marks serial)) there
    ∙ ap (λ serials. insert serials (before marks serial) serial) (sym (from-first 0 marks))
    ∙ ap (λ place. insert (serials_in marks) place serial) (sym (rank-before marks serial))

from-removed : (first : ℕ) (marks : List Bool) (serial : ℕ) → slice_get marks serial ≡ Some true
    → serials_from first (slice_set marks serial false) ≡ remove (serials_from first marks) (before marks serial)
from-removed first [] serial marked = absurd (cc)
from-removed first (true ∷ marks) zero marked = refl
from-removed first (false ∷ marks) zero marked = absurd (cc)
from-removed first (true ∷ marks) (suc serial) marked = ap (λ serials. first ∷ serials) (from-removed (first + 1) marks serial marked)
from-removed first (false ∷ marks) (suc serial) marked = from-removed (first + 1) marks serial marked

-- a serial goes
pub serials-removed : (marks : List Bool) (serial : ℕ) → slice_get marks serial ≡ Some true
    → serials_in (slice_set marks serial false) ≡ remove (serials_in marks) (rank marks serial)
serials-removed marks serial marked =
    from-first 0 (slice_set marks serial false)
    ∙ from-removed 0 marks serial marked
    ∙ ap (λ serials. remove serials (before marks serial)) (sym (from-first 0 marks))
    ∙ ap (remove (serials_in marks)) (sym (rank-before marks serial))

-- so one more is in, or one less
pub length-inserted : (marks : List Bool) (serial : ℕ) → slice_get marks serial ≡ Some false
    → length (serials_in (slice_set marks serial true)) ≡ length (serials_in marks) + 1
length-inserted marks serial out =
    let there = slice_get_within marks serial false out in
    omega (
      arith,
      length-serials_in (slice_set marks serial true),
      length-serials_in marks,
      sum_by-set mark_count marks serial true false there,
      ap mark_count (get_or_from_slice_get marks serial false false out),
    )

pub length-removed : (marks : List Bool) (serial : ℕ) → slice_get marks serial ≡ Some true
    → length (serials_in (slice_set marks serial false)) + 1 ≡ length (serials_in marks)
length-removed marks serial marked =
    let there = slice_get_within marks serial true marked in
    omega (
      arith,
      length-serials_in (slice_set marks serial false),
      length-serials_in marks,
      sum_by-set mark_count marks serial false true there,
      ap mark_count (get_or_from_slice_get marks serial true true marked),
    )

-- a place in a mark is its only one
mark-spot : (marked : Bool) (place : ℕ) → place < mark_count marked → (marked ≡ true) × (place ≡ 0)
mark-spot true place within = (refl, omega arith)
mark-spot false place within = absurd (omega arith)

-- the serial whose mark has a place
pub nth-spot : (marks : List Bool) (place : ℕ) (spot : Spot) → IsSpot mark_count marks place spot → slice_get (serials_in marks) place ≡ Some spot.item
nth-spot marks place spot is =
    let there = mark-spot (slice_index_or marks spot.item false) spot.place (is.within false) in
    let ranked : place ≡ rank marks spot.item = omega (arith, is.before, there.1, length-serials_in (take spot.item marks)) in
    ap (slice_get (serials_in marks)) ranked
    ∙ serial-at-rank marks spot.item (slice_get-get_or marks spot.item false is.exists ∙ ap Some there.0)
