-- Words, and for how many more there is room.
use Rattle.std.specs.Prelude.{ℕ, ℤ, List, refl}
use Rattle.std.specs.Coded.{Coded, code_by, coded×, coded_list, coded_ℕ, coded_ℤ}

-- the words, the first of them first, and for how many more there is room
pub record Spares : Type 0 where
  pub words : List ℤ
  pub room : ℕ

abbrev pub spares_code : Coded Spares
spares_code =
    code_by (List ℤ × ℕ) (coded× (coded_list coded_ℤ) coded_ℕ) (λ s. (s.words, s.room)) (λ p. record { words = p.0; room = p.1 }) (λ _. refl)
