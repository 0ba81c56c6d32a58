-- Where a comment ends.
use Rattle.std.proofs.Common.{◌≡◌, ℕ, suc, ◌+◌, ◌<◌, List, [], ◌∷◌, length, get_or, Some, None, false, eqb, ◌&&◌, refl, ap, arith}
use Rattle.std.specs.Prelude.{zero}
use Rattle.std.proofs.lemmas.Bool.Decides.{nat_tests}
use native.Mathlib.Numerals.{unary_clauses}
use Rattle.mpl_mean.specs.Text.Lexemes.{comment_rest}

-- no `*/` stands at k
abbrev pub NoEnd : List ℕ → ℕ → Type 0
NoEnd bytes k = get_or bytes k 0 ≡ 42 → get_or bytes (k + 1) 0 ≡ 47 → ⊥

no_end-test : (b c : ℕ) → (b ≡ 42 → c ≡ 47 → ⊥) → (eqb b 42 && eqb c 47) ≡ false
no_end-test b c h = grind (arith, nat_tests)

pub comment_rest_found : (bytes : List ℕ) (i : ℕ) → i + 1 < length bytes → get_or bytes i 0 ≡ 42 → get_or bytes (i + 1) 0 ≡ 47 → ((k : ℕ) → k < i → NoEnd bytes k) → comment_rest bytes ≡ Some (i + 2)
comment_rest_found [] i h star slash before = absurd (omega arith)
comment_rest_found (b ∷ []) i h star slash before = absurd (omega arith)
comment_rest_found (b ∷ c ∷ bytes) zero h star slash before = rw (star, slash) refl
comment_rest_found (b ∷ c ∷ bytes) (suc i) h star slash before =
    let e = no_end-test b c (before 0 (omega arith)) in
    let rest = comment_rest_found (c ∷ bytes) i (omega arith) star (simp unary_clauses (simp unary_clauses at slash)) (λ k below. simp unary_clauses (simp unary_clauses at (before (k + 1) (omega arith)))) in
    rw (e, rest) (ap Some (omega arith))

pub comment_rest_none : (bytes : List ℕ) → ((k : ℕ) → k + 1 < length bytes → NoEnd bytes k) → comment_rest bytes ≡ None
comment_rest_none [] none = refl
comment_rest_none (b ∷ []) none = refl
comment_rest_none (b ∷ c ∷ bytes) none =
    let e = no_end-test b c (none 0 (omega arith)) in
    let rest = comment_rest_none (c ∷ bytes) (λ k below. simp unary_clauses (simp unary_clauses at (none (k + 1) (omega arith)))) in
    rw (e, rest) refl
