-- The limits of the language, each in one place.
use Rattle.std.specs.Prelude.{ℕ}

-- ---- texts

abbrev pub most_source_bytes : ℕ
most_source_bytes = 1048576

abbrev pub most_tokens : ℕ
most_tokens = 1048576

-- at one token
abbrev pub most_weight : ℕ
most_weight = 64

-- ---- words

-- of a struct, of an array and of a state
abbrev pub most_words : ℕ
most_words = 256

-- of all formals and locals of one body together
abbrev pub most_words_of_variables : ℕ
most_words_of_variables = 1024

-- ---- counts

abbrev pub most_declarations : ℕ
most_declarations = 4096

-- of one class
abbrev pub most_members : ℕ
most_members = 64

-- of one function or member
abbrev pub most_formals : ℕ
most_formals = 16

-- of one select
abbrev pub most_entries : ℕ
most_entries = 256

abbrev pub greatest_priority : ℕ
greatest_priority = 255

-- ---- runs

-- the turns of a run that isn't given another budget
abbrev pub usual_budget : ℕ
usual_budget = 1000000

abbrev pub greatest_budget : ℕ
greatest_budget = 4000000
