-- What a list of calls that are to fail says of the calls that come.
use Rattle.std.proofs.Common.{◌≡◌, ◌+◌, ◌≤◌, ◌≤ℤ◌, ℕ, ℤ, pos, negsuc, true, false, List, [], ◌∷◌, refl, arith, All}
use Rattle.std.proofs.lemmas.Int.{ints}
use Rattle.std.proofs.lemmas.List.Elements.{All-head}
use Rattle.mentat_io.specs.Memory.Plan.{is_number, is_listed, is_past, none_to_come}

is_past-later : (z : ℤ) (n m : ℕ) → n ≤ m → is_past z n ≡ true → is_past z m ≡ true
is_past-later (pos k) n m le h = grind arith
is_past-later (negsuc k) n m le h = refl

-- what is not to come after n calls is not to come after more
pub still_none : (zs : List ℤ) (n m : ℕ) → n ≤ m → none_to_come zs n ≡ true → none_to_come zs m ≡ true
still_none [] n m le h = refl
still_none (z ∷ zs) n m le h = grind (arith, is_past-later z n m le, still_none zs n m le)

is_past-number : (z : ℤ) (n : ℕ) → is_past z n ≡ true → is_number z (n + 1) ≡ false
is_past-number (pos k) n h = grind arith
is_past-number (negsuc k) n h = refl

-- where none is to come, the next call is not listed
pub none_listed : (zs : List ℤ) (n : ℕ) → none_to_come zs n ≡ true → is_listed zs (n + 1) ≡ false
none_listed [] n h = refl
none_listed (z ∷ zs) n h = grind (arith, is_past-number z n, none_listed zs n)

first_to_come : (z : ℤ) → pos 1 ≤ℤ z → is_past z 0 ≡ false
first_to_come (pos k) h = grind (arith, ints)
first_to_come (negsuc k) h = grind (arith, ints)

-- before the first call none is to come only where the list is empty
pub none_at_first : (zs : List ℤ) → All (λ z. pos 1 ≤ℤ z) zs → none_to_come zs 0 ≡ true → zs ≡ []
none_at_first [] all h = refl
none_at_first (z ∷ zs) all h =
    let first : is_past z 0 ≡ false = first_to_come z (All-head (λ y. pos 1 ≤ℤ y) z zs all) in grind (arith, first)
