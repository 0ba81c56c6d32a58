-- Words, one after another, and their numbers.
use Rattle.std.proofs.Common.{◌≡◌, ℕ, ◌+◌, ◌-◌, ◌<◌, ◌≤◌, Bool, true, false, not, List, [], ◌∷◌, ◌++◌, length, take, drop, Some, None, Result, Ok, Err, ℤ, refl, sym, ap, ap₂, ◌∙◌, arith, append_assoc, append-nil, one-add}
use Rattle.std.specs.List.{prefix_len}
use Rattle.std.proofs.lemmas.List.{drop_all, drop-drop, length-drop, take_all}
use Rattle.std.proofs.lemmas.List.Sums.{prefix_len-le-length}
use Rattle.mentat_input.specs.Words.{Word, is_blank, number_of, numbers_in, numbers_of, with_number, words_from}

abbrev pub is_inside : ℕ → Bool
is_inside b = not (is_blank b)

-- how many bytes stand before the first blank
abbrev pub inside : List ℕ → ℕ
inside bytes = prefix_len is_inside bytes

abbrev pub word_at : ℕ → List ℕ → Word
word_at at text = record { at = at; text = text }

-- ---- words

-- what is left of a word is passed over
abbrev PassesOver : ℕ → List ℕ → Type 0
PassesOver at bytes = words_from at false bytes ≡ words_from (at + inside bytes) true (drop (inside bytes) bytes)

over_one : (at b : ℕ) (bytes : List ℕ) (t : Bool) → is_blank b ≡ t → PassesOver (at + 1) bytes → PassesOver at (b ∷ bytes)
over_one at b bytes true e rest =
    let none : inside (b ∷ bytes) ≡ 0 = rw e refl in
    let passed : words_from at false (b ∷ bytes) ≡ words_from (at + 1) true bytes = rw e refl in
    let again : words_from at true (b ∷ bytes) ≡ words_from (at + 1) true bytes = rw e refl in
    let here : at ≡ at + inside (b ∷ bytes) = omega (arith, none) in
    passed ∙ sym again ∙ ap₂ (λ k j. words_from k true (drop j (b ∷ bytes))) here (sym none)
over_one at b bytes false e rest =
    let there : at + 1 + inside bytes ≡ at + (1 + inside bytes) = omega arith in
    let left : drop (inside bytes) bytes ≡ drop (1 + inside bytes) (b ∷ bytes) = rw one-add refl in
    rw e (rest ∙ ap₂ (λ k ys. words_from k true ys) there left)

rest_of_word : (at : ℕ) (bytes : List ℕ) → PassesOver at bytes
rest_of_word at [] = refl
rest_of_word at (b ∷ bytes) = over_one at b bytes (is_blank b) refl (rest_of_word (at + 1) bytes)

blank_at : (at b : ℕ) (bytes : List ℕ) (t : Bool) → is_blank b ≡ t → inside (b ∷ bytes) ≡ 0 → words_from at true (b ∷ bytes) ≡ words_from (at + 1) true bytes
blank_at at b bytes true e none = rw e refl
blank_at at b bytes false e none = let some : 1 + inside bytes ≡ 0 = rw e at none in absurd (omega (arith, some))

blank_first : (at : ℕ) (rest : List ℕ) → 0 < length rest → inside rest ≡ 0 → words_from at true rest ≡ words_from (at + 1) true (drop 1 rest)
blank_first at [] h none = absurd (omega arith)
blank_first at (b ∷ bytes) h none = blank_at at b bytes (is_blank b) refl none

word_at_first : (at b : ℕ) (bytes : List ℕ) (t : Bool) → is_blank b ≡ t → 0 < inside (b ∷ bytes)
    → words_from at true (b ∷ bytes) ≡ word_at at (take (inside (b ∷ bytes)) (b ∷ bytes)) ∷ words_from at false (b ∷ bytes)
word_at_first at b bytes true e some = let none : 0 < 0 = rw e at some in absurd (omega (arith, none))
word_at_first at b bytes false e some = rw e refl

word_first : (at : ℕ) (rest : List ℕ) → 0 < inside rest
    → words_from at true rest ≡ word_at at (take (inside rest) rest) ∷ words_from (at + inside rest) true (drop (inside rest) rest)
word_first at [] some = absurd (omega arith)
word_first at (b ∷ bytes) some =
    word_at_first at b bytes (is_blank b) refl some
    ∙ ap (λ ws. word_at at (take (inside (b ∷ bytes)) (b ∷ bytes)) ∷ ws) (rest_of_word at (b ∷ bytes))

-- ---- numbers

-- the numbers so far, before those of the rest
abbrev pub behind : List ℤ → Result (List ℤ) ℕ → Result (List ℤ) ℕ
behind done (Ok ns) = Ok (done ++ ns)
behind done (Err at) = Err at

behind_none : (rest : Result (List ℤ) ℕ) → rest ≡ behind [] rest
behind_none (Ok ns) = refl
behind_none (Err at) = refl

behind_one : (done : List ℤ) (value : ℤ) (at : ℕ) (rest : Result (List ℤ) ℕ) → behind done (with_number at (Some value) rest) ≡ behind (done ++ value ∷ []) rest
behind_one done value at (Ok ns) = ap Ok (sym (append_assoc done (value ∷ []) ns))
behind_one done value at (Err place) = refl

-- so far the numbers are those of the words before a place
pub record SoFar (bytes : List ℕ) (at : ℕ) (numbers : List ℤ) : Type 0 where
  pub within : at ≤ length bytes
  pub are : numbers_of bytes ≡ behind numbers (numbers_in (words_from at true (drop at bytes)))

pub no_numbers : (bytes : List ℕ) → SoFar bytes 0 []
no_numbers bytes = record { within = omega arith; are = behind_none (numbers_of bytes) }

pub past_blank : (bytes : List ℕ) (at : ℕ) (numbers : List ℤ) → SoFar bytes at numbers → at < length bytes → inside (drop at bytes) ≡ 0 → SoFar bytes (at + 1) numbers
past_blank bytes at numbers so h none =
    let some : 0 < length (drop at bytes) = omega (arith, length-drop at bytes, h) in
    let next : drop 1 (drop at bytes) ≡ drop (at + 1) bytes = drop-drop 1 at bytes ∙ ap (λ k. drop k bytes) (omega arith) in
    record {
      within = omega (arith, h);
      are = so.are ∙ ap (λ ws. behind numbers (numbers_in ws)) (blank_first at (drop at bytes) some none ∙ ap (words_from (at + 1) true) next);
    }

-- the bytes from a place on, as a slice has them
pub from_place : (bytes : List ℕ) (at : ℕ) → take (length bytes - at) (drop at bytes) ≡ drop at bytes
from_place bytes at = take_all (length bytes - at) (drop at bytes) (omega (arith, length-drop at bytes))

-- what is found of a word at a place
found_there : (bytes : List ℕ) (at n : ℕ) (numbers : List ℤ) → SoFar bytes at numbers → n ≡ inside (drop at bytes) → 0 < n
    → numbers_of bytes ≡ behind numbers (with_number at (number_of (take n (drop at bytes))) (numbers_in (words_from (at + n) true (drop (at + n) bytes))))
found_there bytes at n numbers so is some =
    let first : 0 < inside (drop at bytes) = omega (arith, is, some) in
    let next : drop n (drop at bytes) ≡ drop (at + n) bytes = drop-drop n at bytes ∙ ap (λ k. drop k bytes) (omega arith) in
    so.are
    ∙ ap (λ ws. behind numbers (numbers_in ws)) (word_first at (drop at bytes) first)
    ∙ ap (λ k. behind numbers (with_number at (number_of (take k (drop at bytes))) (numbers_in (words_from (at + k) true (drop k (drop at bytes)))))) (sym is)
    ∙ ap (λ ys. behind numbers (with_number at (number_of (take n (drop at bytes))) (numbers_in (words_from (at + n) true ys)))) next

pub past_word : (bytes : List ℕ) (at n : ℕ) (numbers : List ℤ) (value : ℤ) → SoFar bytes at numbers → n ≡ inside (drop at bytes) → 0 < n
    → number_of (take n (drop at bytes)) ≡ Some value → SoFar bytes (at + n) (numbers ++ value ∷ [])
past_word bytes at n numbers value so is some number = record {
  within = omega (arith, is, so.within, prefix_len-le-length is_inside (drop at bytes), length-drop at bytes);
  are =
      found_there bytes at n numbers so is some
      ∙ ap (λ v. behind numbers (with_number at v (numbers_in (words_from (at + n) true (drop (at + n) bytes))))) number
      ∙ behind_one numbers value at (numbers_in (words_from (at + n) true (drop (at + n) bytes)));
}

pub bad_word : (bytes : List ℕ) (at n : ℕ) (numbers : List ℤ) → SoFar bytes at numbers → n ≡ inside (drop at bytes) → 0 < n
    → number_of (take n (drop at bytes)) ≡ None → numbers_of bytes ≡ Err at
bad_word bytes at n numbers so is some none =
    found_there bytes at n numbers so is some
    ∙ ap (λ v. behind numbers (with_number at v (numbers_in (words_from (at + n) true (drop (at + n) bytes))))) none

pub all_words : (bytes : List ℕ) (at : ℕ) (numbers : List ℤ) → SoFar bytes at numbers → length bytes ≤ at → numbers_of bytes ≡ Ok numbers
all_words bytes at numbers so past =
    so.are ∙ ap (λ ys. behind numbers (numbers_in (words_from at true ys))) (drop_all at bytes past) ∙ ap Ok (append-nil numbers)
