-- Marks on the places of a code, and the loops that pass a test.
use Rattle.std.proofs.Common.{◌≡◌, ◌≢◌, ◌≤◌, ◌<◌, ◌+◌, ℕ, zero, suc, Bool, true, false, ◌&&◌, not, cond, List, [], ◌∷◌, length, get_or, replicate, Option, Some, None, refl, sym, ap, ◌∙◌, subst, arith, inl, inr, ◌⊎◌, zero-add, get_or-set_other}
use Rattle.std.proofs.Math.ListN.{set}
use Rattle.std.proofs.Math.Nat.{le-suc_iff}
use Rattle.std.proofs.lemmas.List.{get_or-replicate, get_or_past}
use Rattle.std.proofs.lemmas.List.Folds.{list_all_at}
use Rattle.std.proofs.lemmas.List.FromFn.{length-range_with_len, get_or-range_with_len}
use Rattle.std.proofs.lemmas.Bool.{cases_lt, cases_order}
use Rattle.std.proofs.lemmas.List.Sums.{sum_by-cons, sum_by-set}
use Rattle.std.proofs.lemmas.Option.{slice_get_past}
use Rattle.std.specs.List.{list_all, range_with_len, slice_get}
use Rattle.mdf_code.specs.declared.instr.Instr.{Instr}
use Rattle.mdf_code.specs.Images.{all_ways, loops_pass, passes, ways_on}
use Rattle.mdf_code.specs.Marks.{IsClosed, IsRight, is_marked, marks}

-- ---- tests of lists

pub both_true : (a b : Bool) → (a && b) ≡ true → (a ≡ true) × (b ≡ true)
both_true true b h = (refl, h)
both_true false b h = absurd (cc h)

and_true : (a b : Bool) → a ≡ true → b ≡ true → (a && b) ≡ true
and_true a b h k = cc

all_weaker : (p q : ℕ → Bool) → ((x : ℕ) → p x ≡ true → q x ≡ true) → (xs : List ℕ) → list_all p xs ≡ true → list_all q xs ≡ true
all_weaker p q weaker [] h = refl
all_weaker p q weaker (x ∷ xs) h =
    and_true (q x) (list_all q xs) (weaker x (both_true (p x) (list_all p xs) h).0) (all_weaker p q weaker xs (both_true (p x) (list_all p xs) h).1)

pub all_at : {X : Type 0} (p : X → Bool) (xs : List X) (i : ℕ) (d : X) → list_all p xs ≡ true → i < length xs → p (get_or xs i d) ≡ true
all_at p xs i d h within = by_test (p (get_or xs i d)) refl where
  by_test : (b : Bool) → p (get_or xs i d) ≡ b → b ≡ true
  by_test true is = refl
  by_test false is = let e : list_all p xs ≡ false = list_all_at p xs i d within is in cc (e, h)

each_all : {X : Type 0} (p : X → Bool) (xs : List X) (d : X) → ((i : ℕ) → i < length xs → p (get_or xs i d) ≡ true) → list_all p xs ≡ true
each_all p [] d h = refl
each_all p (x ∷ xs) d h = and_true (p x) (list_all p xs) (h 0 (omega arith)) (each_all p xs d (λ i within. h (suc i) (omega arith)))

-- ---- ways

ways_weaker : (p q : ℕ → Bool) → ((x : ℕ) → p x ≡ true → q x ≡ true) → (i : Option Instr) (place : ℕ) → all_ways p i place ≡ true → all_ways q i place ≡ true
ways_weaker p q weaker None place h = refl
ways_weaker p q weaker (Some i) place h = all_weaker p q weaker (ways_on i place) h

-- a longer way is allowed as well
passes_more : (code : List Instr) (k place : ℕ) → passes code k place ≡ true → passes code (suc k) place ≡ true
passes_more code zero place h = ways_weaker (λ _. false) (passes code zero) (λ x e. absurd (cc e)) (slice_get code place) place h
passes_more code (suc k) place h = ways_weaker (passes code k) (passes code (suc k)) (passes_more code k) (slice_get code place) place h

pub passes_longer : (code : List Instr) (m k place : ℕ) → k ≤ m → passes code k place ≡ true → passes code m place ≡ true
passes_longer code zero k place le h = let e : k ≡ 0 = omega arith in subst (λ (n : ℕ). passes code n place ≡ true) e h
passes_longer code (suc m) k place le h = elim (le-suc_iff.0 le) [
  | inl less ↦ passes_more code m place (passes_longer code m k place less h)
  | inr same ↦ subst (λ (n : ℕ). passes code n place ≡ true) same h
]

pub passes_past : (code : List Instr) (k place : ℕ) → length code ≤ place → passes code k place ≡ true
passes_past code zero place past = ap (λ (i : Option Instr). all_ways (λ _. false) i place) (slice_get_past code place past)
passes_past code (suc k) place past = ap (λ (i : Option Instr). all_ways (passes code k) i place) (slice_get_past code place past)

-- ---- marks

below_or_past : (n m : ℕ) → (n < m) ⊎ (m ≤ n)
below_or_past n m = cases_lt n m

equal_or_apart : (n m : ℕ) → (n ≡ m) ⊎ (n ≢ m)
equal_or_apart n m = elim (cases_order n m) [
  | inl same ↦ inl same
  | inr either ↦ elim either [ inl below ↦ inr (λ e. omega arith) | inr above ↦ inr (λ e. omega arith) ]
]

pub marks_within : (marked : List Bool) → marks marked ≤ length marked
marks_within [] = omega arith
marks_within (true ∷ marked) = omega (arith, marks_within marked, sum_by-cons (λ mark. cond mark 1 0) true marked)
marks_within (false ∷ marked) = omega (arith, marks_within marked, sum_by-cons (λ mark. cond mark 1 0) false marked)

-- from a mark or past the end each way passes
marked_passes : (code : List Instr) (marked : List Bool) (place : ℕ) → IsRight code marked → is_marked marked place ≡ true → passes code (marks marked) place ≡ true
marked_passes code marked place right is = elim (below_or_past place (length code)) [
  | inl within ↦ right place within is
  | inr past ↦ passes_past code (marks marked) place past
]

-- whether a place can have a mark
abbrev can_mark : List Instr → List Bool → ℕ → Bool
can_mark code marked place = not (is_marked marked place) && all_ways (is_marked marked) (slice_get code place) place

not_true : (b : Bool) → not b ≡ true → b ≡ false
not_true true h = absurd (cc h)
not_true false h = refl

no_mark : (code : List Instr) (marked : List Bool) (place : ℕ) → can_mark code marked place ≡ true → is_marked marked place ≡ false
no_mark code marked place can = not_true (is_marked marked place) (both_true (not (is_marked marked place)) (all_ways (is_marked marked) (slice_get code place) place) can).0

pub one_more : (code : List Instr) (marked : List Bool) (place : ℕ) → length marked ≡ length code → place < length code → can_mark code marked place ≡ true →
    marks (set marked place true) ≡ suc (marks marked)
one_more code marked place same within can = let e = sum_by-set (λ mark. cond mark 1 0) marked place true true (omega arith) in
    let f : marks (set marked place true) + 0 ≡ marks marked + 1 = rw (no_mark code marked place can) at e in omega arith

-- with one more mark, at a place from which each way leads to a mark
pub right_with : (code : List Instr) (marked : List Bool) (place : ℕ) → length marked ≡ length code → place < length code →
    can_mark code marked place ≡ true → IsRight code marked → IsRight code (set marked place true)
right_with code marked place same within can right other below marked_there =
    subst (λ (n : ℕ). passes code n other ≡ true) (sym (one_more code marked place same within can)) (elim (equal_or_apart other place) [
      | inl is ↦ subst (λ (p : ℕ). passes code (suc (marks marked)) p ≡ true) (sym is)
          (ways_weaker (is_marked marked) (passes code (marks marked)) (λ x h. marked_passes code marked x right h) (slice_get code place) place
          (both_true (not (is_marked marked place)) (all_ways (is_marked marked) (slice_get code place) place) can).1)
      | inr apart ↦ passes_more code (marks marked) other (right other below (sym (get_or-set_other marked place other true true (λ e. apart e)) ∙ marked_there))
    ])

-- ---- the end

pub closed_with : (code : List Instr) (marked : List Bool) (place p : ℕ) → can_mark code marked place ≡ false →
    (place < p → all_ways (is_marked marked) (slice_get code p) p ≡ true → is_marked marked p ≡ true) →
    place ≤ p → all_ways (is_marked marked) (slice_get code p) p ≡ true → is_marked marked p ≡ true
closed_with code marked place p cannot later le ways = elim (equal_or_apart p place) [
  | inl is ↦ by_mark (is_marked marked p) refl is
  | inr apart ↦ later (omega arith) ways
] where
  by_mark : (b : Bool) → is_marked marked p ≡ b → p ≡ place → b ≡ true
  by_mark true h is = refl
  by_mark false h is = let at : can_mark code marked p ≡ false = subst (λ (q : ℕ). can_mark code marked q ≡ false) (sym is) cannot in
      let can : can_mark code marked p ≡ true = and_true (not (is_marked marked p)) (all_ways (is_marked marked) (slice_get code p) p) (ap not h) ways in cc (at, can)

closed_or_past : (code : List Instr) (marked : List Bool) (place : ℕ) → length marked ≡ length code → IsClosed code marked →
    all_ways (is_marked marked) (slice_get code place) place ≡ true → is_marked marked place ≡ true
closed_or_past code marked place same closed ways = elim (below_or_past place (length code)) [
  | inl within ↦ closed place within ways
  | inr past ↦ get_or_past marked place true (omega arith)
]

pub complete : (code : List Instr) (marked : List Bool) → length marked ≡ length code → IsClosed code marked → (k place : ℕ) → passes code k place ≡ true → is_marked marked place ≡ true
complete code marked same closed zero place h =
    closed_or_past code marked place same closed (ways_weaker (λ _. false) (is_marked marked) (λ x e. absurd (cc e)) (slice_get code place) place h)
complete code marked same closed (suc k) place h =
    closed_or_past code marked place same closed (ways_weaker (passes code k) (is_marked marked) (complete code marked same closed k) (slice_get code place) place h)

pub marks_decide : (code : List Instr) (marked : List Bool) → length marked ≡ length code → IsRight code marked → IsClosed code marked → list_all (λ mark. mark) marked ≡ loops_pass code
marks_decide code marked same right closed = by_marks (list_all (λ mark. mark) marked) refl (loops_pass code) refl where
  at_place : (i : ℕ) → i < length code → get_or (range_with_len 0 (length code)) i 0 ≡ i
  at_place i within = get_or-range_with_len 0 (length code) i 0 within ∙ zero-add i

  all_pass : list_all (λ mark. mark) marked ≡ true → loops_pass code ≡ true
  all_pass all = each_all (passes code (length code)) (range_with_len 0 (length code)) 0 (λ i within.
      let below : i < length code = omega (arith, length-range_with_len 0 (length code)) in
      subst (λ (p : ℕ). passes code (length code) p ≡ true) (sym (at_place i below))
      (passes_longer code (length code) (marks marked) i (let m = marks_within marked in omega arith)
      (right i below (all_at (λ mark. mark) marked i true all (omega arith)))))

  all_marked : loops_pass code ≡ true → list_all (λ mark. mark) marked ≡ true
  all_marked pass = each_all (λ mark. mark) marked true (λ i within.
      let below : i < length code = omega arith in
      complete code marked same closed (length code) i (subst (λ (p : ℕ). passes code (length code) p ≡ true) (at_place i below)
      (all_at (passes code (length code)) (range_with_len 0 (length code)) i 0 pass (omega (arith, length-range_with_len 0 (length code))))))

  by_marks : (a : Bool) → list_all (λ mark. mark) marked ≡ a → (b : Bool) → loops_pass code ≡ b → list_all (λ mark. mark) marked ≡ loops_pass code
  by_marks true all b h = all ∙ sym (all_pass all)
  by_marks false all true h = let e = all_marked h in cc e
  by_marks false all false h = all ∙ sym h

-- without marks there is nothing to say
pub none_are_right : (code : List Instr) (marked : List Bool) → length marked ≡ length code → marked ≡ replicate (length code) false → IsRight code marked
none_are_right code marked same none place within is =
    let e : get_or marked place true ≡ false = ap (λ (xs : List Bool). get_or xs place true) none ∙ get_or-replicate (length code) place false true within in cc (e, is)
