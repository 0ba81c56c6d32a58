-- Facts of tests and lists.
use Rattle.std.proofs.Common.{◌≡◌, Bool, true, false, List, [], ◌∷◌, refl}
use Rattle.mpl_mean.specs.Laws.Sizes.{Every}

pub by_bool : {P : Type 0} (b : Bool) → (b ≡ true → P) → (b ≡ false → P) → P
by_bool true t f = t refl
by_bool false t f = f refl

pub every_map : {A : Type 0} (P Q : A → Type 0) → ((a : A) → P a → Q a) → (xs : List A) → Every P xs → Every Q xs
every_map P Q h [] e = tt
every_map P Q h (x ∷ xs) e = (h x e.0, every_map P Q h xs e.1)
