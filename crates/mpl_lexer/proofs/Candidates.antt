-- What is found among those that begin with the first byte is what is found among all.
use Rattle.std.proofs.Common.{◌≡◌, ℕ, Bool, List, ◌∷◌, find, sym}

pub found_among : {A : Type 0} (fits : A → List ℕ → Bool) (text : List ℕ) (first : ℕ) (rest : List ℕ) (all some : List A)
    → text ≡ first ∷ rest → ((r : List ℕ) → find (λ a. fits a (first ∷ r)) all ≡ find (λ a. fits a (first ∷ r)) some)
    → find (λ a. fits a text) some ≡ find (λ a. fits a text) all
found_among fits text first rest all some e h = rw e (sym (h rest))
