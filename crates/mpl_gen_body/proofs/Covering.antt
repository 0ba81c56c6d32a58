-- What a map of uses tells of the marks.
use Rattle.std.proofs.Common.{◌≡◌, ◌≤◌, ◌<◌, ℕ, zero, suc, Bool, true, ◌||◌, List, [], ◌∷◌, length, nat_eq, ◌⊎◌, inl, inr, arith, ap, refl, ◌∙◌}
use Rattle.std.proofs.Math.ListN.{get_or}
use Rattle.std.proofs.lemmas.Bool.{cases_lt, eq-eqb}
use Rattle.std.proofs.lemmas.List.Kept.{AllPairs-from_increasing}
use Rattle.std.specs.List.{Contains, slice_index_or}
use Rattle.std.specs.List.Sorted.{IsNonDecreasing, IsStrictlyIncreasing}
use Rattle.mpl_ast.specs.declared.program.Program.{Program}
use Rattle.mpl_mean.specs.Pending.MayBePending.{MayBePending}
use Rattle.mpl_mean.proofs.Truth.{or_right}
use Rattle.mpl_gen_scope.specs.SeenMarks.{marked}
use Rattle.mpl_gen_body.specs.Covers.{Covers}

pub never_falls : (xs : List ℕ) → IsStrictlyIncreasing xs → IsNonDecreasing xs
never_falls xs h i j d le less = by_order (cases_lt i j) where
  by_order : (i < j) ⊎ (j ≤ i) → slice_index_or xs i d ≤ slice_index_or xs j d
  by_order (inl before) = let rises = AllPairs-from_increasing xs h i j d before less in omega (arith, rises)
  by_order (inr behind) = let same : i ≡ j = omega (arith, le, behind) in let e = ap (λ k. slice_index_or xs k d) same in omega (arith, e)

found : (xs : List ℕ) (x d i : ℕ) → i < length xs → get_or xs i d ≡ x → marked xs x ≡ true
found [] x d i h e = absurd (let e : ⊥ = omega (arith, h) in e)
found (y ∷ xs) x d zero h e = ap (λ a. nat_eq x a || marked xs x) e ∙ ap (λ b. b || marked xs x) (eq-eqb x x refl)
found (y ∷ xs) x d (suc i) h e = or_right (nat_eq x y) (marked xs x) (found xs x d i (let e : i < length xs = omega (arith, h) in e) e)

pub has_mark : (xs : List ℕ) (x : ℕ) → Contains xs x → marked xs x ≡ true
has_mark xs x h = found xs x x h.0 h.1 h.2

pub covered : (xs : List ℕ) (p : Program) → Covers xs p → (node : ℕ) → MayBePending p node → marked xs node ≡ true
covered xs p c node h = has_mark xs node (c.has node h)
