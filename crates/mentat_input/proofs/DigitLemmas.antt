-- The number that digits spell, a digit at a time.
use Rattle.std.proofs.Common.{◌≡◌, ℕ, ◌+◌, ◌-◌, ◌*◌, ◌^◌, ◌<◌, ◌≤◌, List, [], ◌∷◌, length, get_or, take, drop, fold, Option, Some, None, refl, ap, ◌∙◌, arith, Bool, true, false, ℤ, pos, negsuc, neg_ℤ, nat_lt, nat_le, zero, suc, subst, ◌==◌, if◌then◌else◌, FitsSigned}
use Rattle.std.proofs.lemmas.List.Sums.{fold-append, fold_more}
use Rattle.std.proofs.lemmas.List.{take-append-drop, take_all}
use Rattle.std.specs.Int.{w64}
use Rattle.std.proofs.lemmas.Bool.{le-ltb, lt-ltb}
use Rattle.mentat_input.specs.Words.{magnitude_of, negative, number_of, positive, value_of}
use Rattle.mentat_input.specs.Internal.Taken.{unsigned_of}

abbrev with_digit : ℕ → ℕ → ℕ
with_digit n digit = 10 * n + (digit - 48)

fold_grows : (n : ℕ) (digits : List ℕ) → n ≤ fold with_digit n digits
fold_grows n [] = omega arith
fold_grows n (d ∷ digits) = omega (arith, fold_grows (with_digit n d) digits)

-- the first digits spell no more than all do
pub value_of-take-le : (digits : List ℕ) (i : ℕ) → value_of (take i digits) ≤ value_of digits
value_of-take-le digits i =
    let e = ap value_of (take-append-drop i digits) in
    omega (arith, fold_grows (value_of (take i digits)) (drop i digits), fold-append with_digit 0 (take i digits) (drop i digits), e)

-- one more digit
pub value_of_more : (digits : List ℕ) (i : ℕ) → i < length digits → value_of (take (i + 1) digits) ≡ 10 * value_of (take i digits) + (get_or digits i 0 - 48)
value_of_more digits i h = fold_more with_digit 0 digits i 0 h

-- too large so far
pub unsigned_of_wide : (digits : List ℕ) (i : ℕ) → i < length digits → 2 ^ 64 ≤ 10 * value_of (take i digits) + (get_or digits i 0 - 48) → unsigned_of digits ≡ None
unsigned_of_wide digits i h wide =
    let le : 2 ^ 64 ≤ value_of digits = omega (arith, value_of_more digits i h, value_of-take-le digits (i + 1)) in
    rw le-ltb refl

-- all digits
pub unsigned_of_fits : (digits : List ℕ) (i value : ℕ) → length digits ≤ i → value ≡ value_of (take i digits) → value < 2 ^ 64 → Some value ≡ unsigned_of digits
unsigned_of_fits digits i value past is fits =
    let all : value ≡ value_of digits = is ∙ ap value_of (take_all i digits past) in
    let small : value_of digits < 2 ^ 64 = omega (arith, all, fits) in
    rw lt-ltb (ap Some all)

-- ---- words of 64 bits

none_is_some : (z : ℤ) → ◌≡◌ {A = Option ℤ} None (Some z) → ⊥
none_is_some z e = cc

positive_some : (t : Bool) (n : ℕ) (z : ℤ) → nat_lt n (2 ^ 63) ≡ t → ◌≡◌ {A = Option ℤ} (if t then Some (pos n) else None) (Some z) → FitsSigned w64 z
positive_some true n z is e =
    let same : pos n ≡ z = cc in
    let below : n < 2 ^ 63 = grind (arith, is) in
    let fits : FitsSigned w64 (pos n) = record { sfits = below } in subst (FitsSigned w64) same fits
positive_some false n z is e = absurd (none_is_some z e)

negative_some : (t : Bool) (n : ℕ) (z : ℤ) → nat_le n (2 ^ 63) ≡ t → ◌≡◌ {A = Option ℤ} (if t then Some (neg_ℤ (pos n)) else None) (Some z) → FitsSigned w64 z
negative_some true zero z is e =
    let same : pos 0 ≡ z = cc in
    let fits : FitsSigned w64 (pos 0) = record { sfits = omega arith } in subst (FitsSigned w64) same fits
negative_some true (suc k) z is e =
    let same : negsuc k ≡ z = cc in
    let below : k < 2 ^ 63 = grind (arith, is) in
    let fits : FitsSigned w64 (negsuc k) = record { sfits = below } in subst (FitsSigned w64) same fits
negative_some false n z is e = absurd (none_is_some z e)

-- a number that a word is has 64 bits
positive_fits : (n : Option ℕ) (z : ℤ) → positive n ≡ Some z → FitsSigned w64 z
positive_fits None z e = absurd (none_is_some z e)
positive_fits (Some n) z e = positive_some (nat_lt n (2 ^ 63)) n z refl e

negative_fits : (n : Option ℕ) (z : ℤ) → negative n ≡ Some z → FitsSigned w64 z
negative_fits None z e = absurd (none_is_some z e)
negative_fits (Some n) z e = negative_some (nat_le n (2 ^ 63)) n z refl e

dash_or_digits : (t : Bool) (bytes digits : List ℕ) (z : ℤ) → (if t then negative (magnitude_of bytes) else positive (magnitude_of digits)) ≡ Some z → FitsSigned w64 z
dash_or_digits true bytes digits z e = negative_fits (magnitude_of bytes) z e
dash_or_digits false bytes digits z e = positive_fits (magnitude_of digits) z e

pub number_fits : (word : List ℕ) (z : ℤ) → number_of word ≡ Some z → FitsSigned w64 z
number_fits [] z e = absurd (none_is_some z e)
number_fits (b ∷ bytes) z e = dash_or_digits (b == 45) bytes (b ∷ bytes) z e
