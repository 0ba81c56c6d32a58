-- What is still to be printed of a line.
use Rattle.std.specs.Prelude.{ℕ, Bool, true, false, List, ◌∷◌}
use Rattle.mpl_mean.specs.Meaning.StatementMeaning.{line_of, texts_after_first}
use Rattle.mpl_mean.specs.Meaning.Values.{Value}

abbrev pub rest_of : Bool → List Value → List ℕ
rest_of true values = line_of values
rest_of false values = texts_after_first values

-- a space before each text but the first
abbrev pub separated : Bool → List ℕ → List ℕ
separated true text = text
separated false text = 32 ∷ text
