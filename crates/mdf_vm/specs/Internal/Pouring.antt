-- Words that are put into variables that have room for them.
use Rattle.std.specs.Prelude.{List, [], ◌∷◌, take, drop, length, ℤ}
use Rattle.mpl_value.specs.Words.{with_words}
use Rattle.mdf_code.specs.Alone.{Held, Words, Pending}

-- as many words from the front as it has room for
abbrev pub poured : Held → List ℤ → Held
poured (Words held) words = Words (with_words 0 (take (length held) words) held)
poured (Pending result) words = Pending result

-- what is left of them
abbrev pub left_by : Held → List ℤ → List ℤ
left_by (Words held) words = drop (length held) words
left_by (Pending result) words = words

abbrev pub all_poured : List Held → List ℤ → List Held
all_poured [] words = []
all_poured (held ∷ others) words = poured held words ∷ all_poured others (left_by held words)
