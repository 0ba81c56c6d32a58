-- Words that lie one after another: reading some of them, storing others, and indices.
use Rattle.std.specs.Prelude.{ℕ, ◌+◌, ◌*◌, ◌^◌, Bool, true, false, nat_lt, List, ◌++◌, take, drop, length, replicate, Option, Some, None, if◌then◌else◌, ℤ, pos, negsuc}

-- so many words from an offset
abbrev pub words_at : ℕ → ℕ → List ℤ → List ℤ
words_at offset count words = take count (drop offset words)

-- words in place of as many from an offset
abbrev pub with_words : ℕ → List ℤ → List ℤ → List ℤ
with_words offset new words = take offset words ++ (new ++ drop (offset + length new) words)

abbrev pub zeros : ℕ → List ℤ
zeros count = replicate count (pos 0)

-- the word of a truth value
abbrev pub bool_word : Bool → ℤ
bool_word true = pos 1
bool_word false = pos 0

-- an index is from 0 on and below the dimension
abbrev pub index_below : ℕ → ℤ → Option ℕ
index_below dimension (pos n) = if nat_lt n dimension then Some n else None
index_below dimension (negsuc n) = None

-- the word of the j-th object that the body of a number creates
abbrev pub object_word : ℕ → ℕ → ℤ
object_word number j = pos (number * 2 ^ 32 + j)
