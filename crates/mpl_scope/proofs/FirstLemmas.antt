-- A table of the first of each name after one is added.
use Rattle.std.proofs.Common.{◌≡◌, ℕ, Bool, true, false, List, cond, Option, Some, None, if◌then◌else◌, refl, ap, sym, ◌∙◌}
use Rattle.std.proofs.lemmas.Slice.Eq.{bytes_eq-Decides}
use Rattle.std.specs.Map.{update}
use Rattle.std.specs.Str.{bytes_eq}
use Rattle.mpl_scope.specs.First.{or_else, with_first}

added_by : {V : Type 0} (v : V) (o p : Option V) (b : Bool) → p ≡ cond b (Some v) o → (b ≡ true → o ≡ None) → p ≡ or_else o (if b then Some v else None)
added_by v o p true is none = is ∙ ap (λ x. or_else x (Some v)) (sym (none refl))
added_by v None p false is none = is
added_by v (Some x) p false is none = is

same_name : (a b : List ℕ) → bytes_eq a b ≡ true → a ≡ b
same_name a b e = (bytes_eq-Decides a b).0 e

pub added : {V : Type 0} (f g : List ℕ → Option V) (name : List ℕ) (v : V) → f name ≡ None → ((q : List ℕ) → g q ≡ update bytes_eq f name (Some v) q)
    → (q : List ℕ) → g q ≡ with_first name v f q
added f g name v none is q = added_by v (f q) (g q) (bytes_eq name q) (is q) (λ e. ap f (sym (same_name name q e)) ∙ none)

restored_by : {V : Type 0} (v first : V) (o p r : Option V) (b : Bool) → p ≡ cond b (Some v) o → r ≡ cond b (Some first) p → (b ≡ true → o ≡ Some first)
    → r ≡ or_else o (if b then Some v else None)
restored_by v first o p r true put back had = back ∙ ap (λ x. or_else x (Some v)) (sym (had refl))
restored_by v first None p r false put back had = back ∙ put
restored_by v first (Some x) p r false put back had = back ∙ put

-- the one that was there is put back
pub restored : {V : Type 0} (f g h : List ℕ → Option V) (name : List ℕ) (v first : V) → f name ≡ Some first → ((q : List ℕ) → g q ≡ update bytes_eq f name (Some v) q)
    → ((q : List ℕ) → h q ≡ update bytes_eq g name (Some first) q) → (q : List ℕ) → h q ≡ with_first name v f q
restored f g h name v first had put back q =
    restored_by v first (f q) (g q) (h q) (bytes_eq name q) (put q) (back q) (λ e. ap f (sym (same_name name q e)) ∙ had)
