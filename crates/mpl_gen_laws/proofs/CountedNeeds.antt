-- Pieces of code that need a variable so often, wherever they stand.
use Rattle.std.proofs.Common.{◌≡◌, ℕ, ◌+◌, Bool, true, false, List, [], ◌∷◌, ◌++◌, length, Option, Some, None, refl, ap, ap₂, sym, arith, ◌∙◌}
use Rattle.mdf_code.specs.declared.instr.Instr.{Instr}
use Rattle.mdf_code.specs.declared.instr.Instr.TheVariants as instr
use Rattle.mpl_gen_code.specs.ExpressionCode.{need_of_slot}
use Rattle.mpl_gen_code.specs.Pieces.{Piece, either, followed_by, joined, loop, no_code, one, unless_zero, where_marked}
use Rattle.mpl_gen_code.specs.Scopes.{Slot}
use Rattle.mpl_gen_laws.specs.MarkedUses.{need_in, needs_in, one_if}

pub needs_both : (a b : List Instr) → needs_in (a ++ b) ≡ needs_in a + needs_in b
needs_both [] b = omega arith
needs_both (i ∷ a) b = let rest = needs_both a b in omega (arith, rest)

pub record Needs (n : ℕ) (piece : Piece) : Type 0 where
  pub are : (base : ℕ) → needs_in (piece base) ≡ n

pub same_needs : {m n : ℕ} {piece : Piece} → m ≡ n → Needs m piece → Needs n piece
same_needs e h = record { are = λ base. h.are base ∙ e }

pub none_needed : Needs 0 no_code
none_needed = record { are = λ base. refl }

pub one_needs : (i : Instr) → Needs (need_in i) (one i)
one_needs i = record { are = λ base. omega arith }

pub both_need : {m n : ℕ} {p q : Piece} → Needs m p → Needs n q → Needs (m + n) (joined p q)
both_need {m} {n} {p} {q} h k = record {
  are = λ base.
      let whole = needs_both (p base) (q (base + length (p base))) in
      let first = h.are base in
      let second = k.are (base + length (p base)) in
      omega (arith, whole, first, second);
}

-- behind it an instruction that needs nothing
pub then_needs : {n : ℕ} {p : Piece} (i : Instr) → need_in i ≡ 0 → Needs n p → Needs n (followed_by p i)
then_needs {n} {p} i e h = record {
  are = λ base.
      let whole = needs_both (p base) (i ∷ []) in
      let first = h.are base in
      omega (arith, whole, first, e);
}

pub unless_needs : {n : ℕ} {p : Piece} → Needs n p → Needs n (unless_zero p)
unless_needs h = record { are = λ base. let inner = h.are (base + 1) in omega (arith, inner) }

pub either_needs : {m n : ℕ} {p q : Piece} → Needs m p → Needs n q → Needs (m + n) (either p q)
either_needs {m} {n} {p} {q} h k = record {
  are = λ base.
      let behind = base + 1 + length (p (base + 1)) + 1 in
      let whole = needs_both (p (base + 1)) (instr.Jump (behind + length (q behind)) ∷ q behind) in
      let first = h.are (base + 1) in
      let second = k.are behind in
      omega (arith, whole, first, second);
}

pub loop_needs : {m n : ℕ} {test body : Piece} → Needs m test → Needs n body → Needs (m + n) (loop test body)
loop_needs {m} {n} {test} {body} h k = record {
  are = λ base.
      let at = base + 1 + length (test (base + 1)) in
      let whole = needs_both (test (base + 1)) (unless_zero (followed_by body (instr.Jump base)) at) in
      let first = h.are (base + 1) in
      let inner = (then_needs (instr.Jump base) refl k).are (at + 1) in
      omega (arith, whole, first, inner);
}

-- a variable, where its use is marked
pub slot_needs : (b : Bool) (slot : Slot) → Needs (one_if b) (where_marked b (need_of_slot (Some slot)))
slot_needs true slot = record { are = λ base. refl }
slot_needs false slot = record { are = λ base. refl }
