-- What a known value has: its words, or the trap in their place.
use Rattle.std.specs.Prelude.{ℕ, ◌≤◌, ℤ, List, [], length}
use Rattle.mpl_value.specs.declared.known.Known.{Known}
use Rattle.mpl_value.specs.declared.known.Known.TheVariants.{Value, Trapped}
use Rattle.mdf_match.specs.declared.datum.Seen.{Seen}
use Rattle.mdf_match.specs.declared.datum.Seen.TheVariants as seen

-- the words of a value; a trap has none
abbrev pub words_of : Known → List ℤ
words_of (Value words) = words
words_of (Trapped _) = []

-- the most words that a variable, a result or a state has
abbrev pub most_words : ℕ
most_words = 1024

abbrev pub HasFewWords : Known → Type 0
HasFewWords known = length (words_of known) ≤ most_words

abbrev pub seen_of : Known → Seen
seen_of (Value words) = seen.Words (length words)
seen_of (Trapped trap) = seen.Trapped trap
