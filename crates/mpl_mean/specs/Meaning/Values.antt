-- The values of expressions.
use Rattle.std.specs.Prelude.{ℕ, Bool, true, false, not, List, [], ◌∷◌, codes, if◌then◌else◌, ℤ, pos}
use Rattle.std.specs.Fmt.{signed_decimal}
use Rattle.std.specs.Ordering.{int_eq}
use Rattle.mpl_value.specs.Words.{bool_word}

-- the words of a value, and whether it is a `bool`
pub record Value : Type 0 where
  pub words : List ℤ
  pub is_bool : Bool

abbrev pub first_word : List ℤ → ℤ
first_word [] = pos 0
first_word (word ∷ words) = word

-- the word of an `int` or a `bool`
abbrev pub word_of : Value → ℤ
word_of value = first_word value.words

abbrev pub int_value : ℤ → Value
int_value z = record { words = z ∷ []; is_bool = false }

abbrev pub bool_value : Bool → Value
bool_value b = record { words = bool_word b ∷ []; is_bool = true }

-- a `bool` is false where its word is 0
abbrev pub is_true : Value → Bool
is_true value = not (int_eq (word_of value) (pos 0))

-- a value as it is printed
abbrev pub value_text : Value → List ℕ
value_text value = if value.is_bool then (if is_true value then codes "true" else codes "false") else signed_decimal (word_of value)
