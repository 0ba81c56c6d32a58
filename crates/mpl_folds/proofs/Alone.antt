-- A row of one operand is a node of each level.
use Rattle.std.proofs.Common.{◌≡◌, ℕ, zero, ◌+◌, ◌≤◌, ◌<◌, ◌^◌, Bool, true, false, if◌then◌else◌, [], ◌∷◌, Option, Some, None, refl, ap, sym, ◌∙◌, arith, nat_le}
use Rattle.std.proofs.lemmas.Bool.{leb-false, lt-leb}
use Rattle.std.specs.Option.{option_and_then, option_map}
use Rattle.mpl_ast.specs.declared.expression.Expression.{Expression}
use Rattle.mpl_trees.specs.Folds.{Folds, Grade, Row, chain, conjunctions, equalities, expressions, next_unary, one_of, relations, sums, terms, whole_row, next_conjunction, next_equality, next_expression, next_relation, next_sum, next_term}
use Rattle.mpl_trees.specs.Taking.{place}
use Rattle.mpl_trees.specs.declared.piece.Piece.{Piece}
use Rattle.mpl_trees.specs.declared.piece.Start.{Start}
use Rattle.mpl_reader.specs.Reader.{most_number}
use Rattle.mpl_reader.proofs.Numbers.{above, within}

abbrev pub deeper : Start → Start
deeper s = record s { id = s.id + 1 }

abbrev done : Piece → Row
done p = record { pieces = []; last = p.to }

abbrev alone : Piece → Row
alone p = record { pieces = p ∷ []; last = 0 }

-- where so many numbers further inward there is a part
abbrev Parts : {C : Type 0} → Folds C → ℕ → (Start → C) → ℕ → Piece → Type 0
Parts part n tree limit p = (s : Start) → part limit s (alone p) ≡ (if nat_le (s.id + n) limit then Some (tree s, done p) else None)

one_more : {C T O : Type 0} (g : Grade C T O) (part : Folds C) (n : ℕ) (tree : Start → C) (limit : ℕ) (p : Piece) → Parts part n tree limit p
    → Parts (chain g part zero) (n + 1) (λ s. g.one (place s p.to) (tree (deeper s))) limit p
one_more {T = T} g part n tree limit p parts s = by_first (nat_le (s.id + 1) limit) refl where
  whole : Bool → Option (T × Row)
  whole b = if b then Some (g.one (place s p.to) (tree (deeper s)), done p) else None

  within : Bool → Option (T × Row)
  within b = one_of g s (option_and_then (λ i. part limit i (alone p)) (if b then Some (deeper s) else None))

  mapped : (b : Bool) → one_of g s (if b then Some (tree (deeper s), done p) else None) ≡ whole b
  mapped true = refl
  mapped false = refl

  by_first : (b : Bool) → nat_le (s.id + 1) limit ≡ b → within (nat_le (s.id + 1) limit) ≡ whole (nat_le (s.id + (n + 1)) limit)
  by_first true h =
      let e : s.id + 1 + n ≡ s.id + (n + 1) = omega arith in
      ap within h ∙ ap (one_of g s) (parts (deeper s)) ∙ mapped (nat_le (s.id + 1 + n) limit) ∙ ap (λ k. whole (nat_le k limit)) e
  by_first false h =
      let least = leb-false (s.id + 1) limit h in
      ap within h ∙ ap whole (sym (lt-leb (s.id + (n + 1)) limit (omega arith)))

a_term : (limit : ℕ) (p : Piece) → Parts next_term 1 (λ s. terms.one (place s p.to) p.unary) limit p
a_term limit p s = by_first (nat_le (s.id + 1) limit) where
  by_first : (b : Bool) → one_of terms s (option_and_then (λ i. next_unary limit i (alone p)) (if b then Some (deeper s) else None))
      ≡ (if b then Some (terms.one (place s p.to) p.unary, done p) else None)
  by_first true = refl
  by_first false = refl

abbrev tree_of : Start → Piece → Expression
tree_of s p =
    let conjunction = deeper s in
    let equality = deeper conjunction in
    let relation = deeper equality in
    let sum = deeper relation in
    let term = deeper sum in
    expressions.one (place s p.to) (conjunctions.one (place conjunction p.to) (equalities.one (place equality p.to) (relations.one (place relation p.to) (sums.one (place sum p.to) (terms.one (place term p.to) p.unary)))))

an_expression : (limit : ℕ) (p : Piece) → Parts next_expression 6 (λ s. tree_of s p) limit p
an_expression limit p =
    let sum = one_more sums next_term 1 (λ s. terms.one (place s p.to) p.unary) limit p (a_term limit p) in
    let relation = one_more relations next_sum 2 (λ s. sums.one (place s p.to) (terms.one (place (deeper s) p.to) p.unary)) limit p sum in
    let equality = one_more equalities next_relation 3 _ limit p relation in
    let conjunction = one_more conjunctions next_equality 4 _ limit p equality in
    one_more expressions next_conjunction 5 _ limit p conjunction

whole_of : (limit : ℕ) (s : Start) (p : Piece) (b : Bool) → nat_le (s.id + 6) limit ≡ b → whole_row limit s (p ∷ []) ≡ (if b then Some (tree_of s p) else None)
whole_of limit s p true h = ap (option_map (λ q. q.0)) (an_expression limit p s ∙ ap (λ (b : Bool). if b then Some (tree_of s p, done p) else None) h)
whole_of limit s p false h = ap (option_map (λ q. q.0)) (an_expression limit p s ∙ ap (λ (b : Bool). if b then Some (tree_of s p, done p) else None) h)

pub lone-is : (s : Start) (p : Piece) → s.id + 6 < 2 ^ 32 → whole_row most_number s (p ∷ []) ≡ Some (tree_of s p)
lone-is s p h = whole_of most_number s p true (within (s.id + 6) h)

pub lone-stuck : (s : Start) (p : Piece) → 2 ^ 32 ≤ s.id + 6 → whole_row most_number s (p ∷ []) ≡ None
lone-stuck s p h = whole_of most_number s p false (above (s.id + 6) h)
