-- What is left of a list.
use Rattle.std.proofs.Common.{◌≡◌, ℕ, ◌+◌, ◌<◌, ◌≤◌, List, [], ◌∷◌, length, drop, get_or, Some, None, slice_get, ap, sym, subst, inl, inr, ◌∙◌}
use Rattle.std.proofs.lemmas.List.{at_drop_more, at_drop_all}
use Rattle.std.proofs.lemmas.Option.{slice_get_cases}

pub next_left : {X : Type 0} (xs : List X) (i : ℕ) (x : X) → i < length xs → x ≡ get_or xs i x → drop i xs ≡ x ∷ drop (i + 1) xs
next_left xs i x within is = at_drop_more (λ all. all) xs i x within ∙ ap (λ e. e ∷ drop (i + 1) xs) (sym is)

pub none_left : {X : Type 0} (xs : List X) (i : ℕ) → length xs ≤ i → drop i xs ≡ []
none_left xs i past = at_drop_all (λ all. all) xs i past

pub left_at : {X : Type 0} (xs : List X) (i : ℕ) (x : X) → Some x ≡ slice_get xs i → drop i xs ≡ x ∷ drop (i + 1) xs
left_at {X} xs i x found = elim (slice_get_cases xs i).1 [
  | inl w ↦
      let same : w.0 ≡ x = cc (w.2) in
      next_left xs i x w.1 (subst (λ (y : X). y ≡ get_or xs i y) same (sym w.3))
  | inr w ↦ cc (w.1)
]

pub none_at : {X : Type 0} (xs : List X) (i : ℕ) → None ≡ slice_get xs i → drop i xs ≡ []
none_at xs i missing = elim (slice_get_cases xs i).1 [
  | inl w ↦ cc (w.2)
  | inr w ↦ none_left xs i w.0
]
