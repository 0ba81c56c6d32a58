-- The words of an input, and the numbers that they are.
use Rattle.std.specs.Prelude.{ℕ, ◌+◌, ◌-◌, ◌*◌, ◌^◌, Bool, true, false, not, ◌&&◌, ◌||◌, ◌==◌, nat_le, nat_lt, List, [], ◌∷◌, fold, take_while, Option, Some, None, Result, Ok, Err, if◌then◌else◌, ℤ, pos, neg_ℤ}
use Rattle.std.specs.List.{list_all}

-- ---- words

-- a space, a tab, a line feed or a carriage return
abbrev pub is_blank : ℕ → Bool
is_blank b = (b == 32) || (b == 9) || (b == 10) || (b == 13)

-- the bytes of a word, and the place of its first
pub record Word : Type 0 where
  pub at : ℕ
  pub text : List ℕ

-- A word begins at each byte that is no blank and has none but a blank before it. It goes up to the next blank.
abbrev pub words_from : ℕ → Bool → List ℕ → List Word
words_from at behind_blank [] = []
words_from at behind_blank (b ∷ bytes) =
    if is_blank b then words_from (at + 1) true bytes
    else begun behind_blank (take_while (λ c. not (is_blank c)) (b ∷ bytes)) (words_from (at + 1) false bytes) where
      begun : Bool → List ℕ → List Word → List Word
      begun true text others = record { at = at; text = text } ∷ others
      begun false text others = others

abbrev pub words_of : List ℕ → List Word
words_of bytes = words_from 0 true bytes

-- ---- numbers

abbrev pub is_digit : ℕ → Bool
is_digit b = nat_le 48 b && nat_le b 57

-- the number that digits spell
abbrev pub value_of : List ℕ → ℕ
value_of digits = fold (λ n digit. 10 * n + (digit - 48)) 0 digits

-- the number that one or more digits spell
abbrev pub magnitude_of : List ℕ → Option ℕ
magnitude_of [] = None
magnitude_of (b ∷ bytes) = if list_all is_digit (b ∷ bytes) then Some (value_of (b ∷ bytes)) else None

-- the number, where it is at most so great
abbrev pub at_most : ℕ → Option ℕ → Option ℕ
at_most most None = None
at_most most (Some n) = if nat_le n most then Some n else None

-- the number, where a word of 64 bits holds it
abbrev pub positive : Option ℕ → Option ℤ
positive None = None
positive (Some n) = if nat_lt n (2 ^ 63) then Some (pos n) else None

-- the number below 0 that is so far from it, where a word of 64 bits holds it
abbrev pub negative : Option ℕ → Option ℤ
negative None = None
negative (Some n) = if nat_le n (2 ^ 63) then Some (neg_ℤ (pos n)) else None

-- the number that a word is: digits, with a dash before them where it is below 0
abbrev pub number_of : List ℕ → Option ℤ
number_of [] = None
number_of (b ∷ bytes) = if b == 45 then negative (magnitude_of bytes) else positive (magnitude_of (b ∷ bytes))

-- the number of a word that begins at a place, before those of the others
abbrev pub with_number : ℕ → Option ℤ → Result (List ℤ) ℕ → Result (List ℤ) ℕ
with_number at None others = Err at
with_number at (Some n) (Err later) = Err later
with_number at (Some n) (Ok ns) = Ok (n ∷ ns)

-- the numbers of words, or the place of the first that is none
abbrev pub numbers_in : List Word → Result (List ℤ) ℕ
numbers_in [] = Ok []
numbers_in (w ∷ others) = with_number w.at (number_of w.text) (numbers_in others)

-- the numbers of an input, or the first byte of its first word that is none
abbrev pub numbers_of : List ℕ → Result (List ℤ) ℕ
numbers_of bytes = numbers_in (words_of bytes)
