-- Pieces of code of so many instructions at most, whose numbers have 32 bits as long as the code ends below a limit.
use Rattle.std.proofs.Common.{◌≡◌, ◌≤◌, ℕ, ◌+◌, Bool, true, false, List, [], ◌∷◌, ◌++◌, length, arith}
use Rattle.std.specs.Prelude.{◌<◌, ◌^◌}
use Rattle.std.proofs.lemmas.List.{length-append}
use Rattle.mdf_code.specs.declared.instr.Instr.{Instr}
use Rattle.mdf_code.specs.declared.instr.Instr.TheVariants as instr
use Rattle.mpl_mean.specs.Laws.Sizes.{Every}
use Rattle.mpl_gen_code.specs.Pieces.{Piece, either, followed_by, joined, loop, no_code, one, unless_zero, where_marked}
use Rattle.mpl_gen_expr.specs.Drafts.{Fits32, InstrFits}

pub every_both : {A : Type 0} (P : A → Type 0) (xs ys : List A) → Every P xs → Every P ys → Every P (xs ++ ys)
every_both P [] ys h k = k
every_both P (x ∷ xs) ys h k = (h.0, every_both P xs ys h.1 k)

-- every number up to this one has 32 bits
pub record IsLimit (limit : ℕ) : Type 0 where
  pub below : Fits32 limit

pub fits_below : {limit : ℕ} (n : ℕ) → IsLimit limit → n ≤ limit → Fits32 n
fits_below {limit} n h le = below n limit (2 ^ 32) le h.below where
  below : (n limit bound : ℕ) → n ≤ limit → limit < bound → n < bound
  below n limit bound le h = omega (arith, le, h)

module _ (limit : ℕ) (is : IsLimit limit) where
  pub record Laid (n : ℕ) (piece : Piece) : Type 0 where
    pub short : (base : ℕ) → length (piece base) ≤ n
    pub fits : (base : ℕ) → base + n ≤ limit → Every InstrFits (piece base)

  pub more : {m n : ℕ} {piece : Piece} → m ≤ n → Laid m piece → Laid n piece
  more le h = record {
    short = λ base. let k = h.short base in omega (arith, le, k);
    fits = λ base room. h.fits base (omega (arith, le, room));
  }

  pub none_laid : Laid 0 no_code
  none_laid = record { short = λ base. omega arith; fits = λ base room. tt }

  pub one_laid : (i : Instr) → (1 ≤ limit → InstrFits i) → Laid 1 (one i)
  one_laid i h = record { short = λ base. omega arith; fits = λ base room. (h (omega (arith, room)), tt) }

  pub both_laid : {m n : ℕ} {p q : Piece} → Laid m p → Laid n q → Laid (m + n) (joined p q)
  both_laid {m} {n} {p} {q} h k = record {
    short = λ base.
        let first = h.short base in
        let second = k.short (base + length (p base)) in
        let whole = length-append (p base) (q (base + length (p base))) in
        omega (arith, first, second, whole);
    fits = λ base room.
        let first = h.short base in
        every_both InstrFits (p base) (q (base + length (p base))) (h.fits base (omega (arith, room))) (k.fits (base + length (p base)) (omega (arith, room, first)));
  }

  pub then_laid : {n : ℕ} {p : Piece} (i : Instr) → Laid n p → (n + 1 ≤ limit → InstrFits i) → Laid (n + 1) (followed_by p i)
  then_laid {n} {p} i h k = record {
    short = λ base.
        let first = h.short base in
        let whole = length-append (p base) (i ∷ []) in
        omega (arith, first, whole);
    fits = λ base room. every_both InstrFits (p base) (i ∷ []) (h.fits base (omega (arith, room))) (k (omega (arith, room)), tt);
  }

  pub marked_laid : {n : ℕ} {p : Piece} (b : Bool) → Laid n p → Laid n (where_marked b p)
  marked_laid true h = h
  marked_laid false h = more (omega arith) none_laid

  -- ---- where a word decides

  pub unless_laid : {n : ℕ} {p : Piece} → Laid n p → Laid (n + 1) (unless_zero p)
  unless_laid {n} {p} h = record {
    short = λ base. let inner = h.short (base + 1) in omega (arith, inner);
    fits = λ base room. let inner = h.short (base + 1) in (fits_below (base + 1 + length (p (base + 1))) is (omega (arith, room, inner)), h.fits (base + 1) (omega (arith, room)));
  }

  pub either_laid : {m n : ℕ} {p q : Piece} → Laid m p → Laid n q → Laid (m + n + 2) (either p q)
  either_laid {m} {n} {p} {q} h k = record { short = short; fits = fits } where
    short : (base : ℕ) → length (either p q base) ≤ m + n + 2
    short base =
        let count = length (p (base + 1)) in
        let behind = base + 1 + count + 1 in
        let first = h.short (base + 1) in
        let second = k.short behind in
        let whole = length-append (p (base + 1)) (instr.Jump (behind + length (q behind)) ∷ q behind) in
        omega (arith, first, second, whole)

    fits : (base : ℕ) → base + (m + n + 2) ≤ limit → Every InstrFits (either p q base)
    fits base room =
        let count = length (p (base + 1)) in
        let behind = base + 1 + count + 1 in
        let first = h.short (base + 1) in
        let second = k.short behind in (
          fits_below behind is (omega (arith, room, first)),
          every_both InstrFits (p (base + 1)) (instr.Jump (behind + length (q behind)) ∷ q behind) (h.fits (base + 1) (omega (arith, room)))
              (fits_below (behind + length (q behind)) is (omega (arith, room, first, second)), k.fits behind (omega (arith, room, first))),
        )

  -- a jump back to where it begins
  back_laid : {n : ℕ} {p : Piece} (start : ℕ) → Laid n p → (base : ℕ) → start ≤ base → base + (n + 1) ≤ limit → Every InstrFits (followed_by p (instr.Jump start) base)
  back_laid {n} {p} start h base le room = every_both InstrFits (p base) (instr.Jump start ∷ []) (h.fits base (omega (arith, room))) (fits_below start is (omega (arith, le, room)), tt)

  pub loop_laid : {m n : ℕ} {test body : Piece} → Laid m test → Laid n body → Laid (m + n + 3) (loop test body)
  loop_laid {m} {n} {test} {body} h k = record { short = short; fits = fits } where
    short : (base : ℕ) → length (loop test body base) ≤ m + n + 3
    short base =
        let tested = h.short (base + 1) in
        let at = base + 1 + length (test (base + 1)) in
        let inner = k.short (at + 1) in
        let whole = length-append (test (base + 1)) (unless_zero (followed_by body (instr.Jump base)) at) in
        let last = length-append (body (at + 1)) (instr.Jump base ∷ []) in
        omega (arith, tested, inner, whole, last)

    fits : (base : ℕ) → base + (m + n + 3) ≤ limit → Every InstrFits (loop test body base)
    fits base room =
        let tested = h.short (base + 1) in
        let at = base + 1 + length (test (base + 1)) in
        let inner = k.short (at + 1) in
        let last = length-append (body (at + 1)) (instr.Jump base ∷ []) in (
          tt,
          every_both InstrFits (test (base + 1)) (unless_zero (followed_by body (instr.Jump base)) at) (h.fits (base + 1) (omega (arith, room)))
              (fits_below (at + 1 + length (followed_by body (instr.Jump base) (at + 1))) is (omega (arith, room, tested, inner, last)), back_laid base k (at + 1) (omega arith) (omega (arith, room, tested))),
        )
