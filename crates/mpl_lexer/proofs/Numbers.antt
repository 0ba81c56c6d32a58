-- The value of digits, a digit at a time.
use Rattle.std.proofs.Common.{◌≡◌, ℕ, ◌+◌, ◌-◌, ◌*◌, ◌^◌, ◌<◌, ◌≤◌, List, [], ◌∷◌, length, get_or, take, drop, fold, None, refl, ap, ◌∙◌, arith}
use Rattle.std.specs.List.{prefix_len, AllPass}
use Rattle.std.proofs.lemmas.List.Sums.{fold-append, fold_more, prefix_len_passes}
use Rattle.std.proofs.lemmas.List.{take-append-drop, length-take, get_or-take}
use Rattle.std.proofs.lemmas.Bool.{le-ltb}
use Rattle.mpl_mean.specs.Text.Lexemes.{value_of, is_digit}
use Rattle.mpl_lexer.specs.Lexing.{word_of}

abbrev with_digit : ℕ → ℕ → ℕ
with_digit n digit = 10 * n + (digit - 48)

fold_grows : (n : ℕ) (digits : List ℕ) → n ≤ fold with_digit n digits
fold_grows n [] = omega arith
fold_grows n (d ∷ digits) = omega (arith, fold_grows (with_digit n d) digits)

-- the first digits spell no more than all do
pub value_of-take-le : (digits : List ℕ) (i : ℕ) → value_of (take i digits) ≤ value_of digits
value_of-take-le digits i =
    let e = ap value_of (take-append-drop i digits) in
    omega (arith, fold_grows (value_of (take i digits)) (drop i digits), fold-append with_digit 0 (take i digits) (drop i digits), e)

-- one more digit
pub value_of_more : (digits : List ℕ) (i : ℕ) → i < length digits → value_of (take (i + 1) digits) ≡ 10 * value_of (take i digits) + (get_or digits i 0 - 48)
value_of_more digits i h = fold_more with_digit 0 digits i 0 h

-- too large so far
pub word_of_wide : (digits : List ℕ) (i : ℕ) → i < length digits → 2 ^ 63 ≤ 10 * value_of (take i digits) + (get_or digits i 0 - 48) → word_of digits ≡ None
word_of_wide digits i h wide =
    let le : 2 ^ 63 ≤ value_of digits = omega (arith, value_of_more digits i h, value_of-take-le digits (i + 1)) in
    rw le-ltb refl

pub digits_pass : (bytes : List ℕ) (n : ℕ) → n ≡ prefix_len is_digit bytes → AllPass is_digit (take n bytes)
digits_pass bytes n e k d below =
    let inside : k < n = omega (arith, length-take n bytes) in
    let passes = prefix_len_passes is_digit bytes k d (omega arith) in
    ap is_digit (get_or-take n bytes k d inside) ∙ passes
