-- The limits of an input.
use Rattle.std.specs.Prelude.{ℕ}

abbrev pub most_input_bytes : ℕ
most_input_bytes = 2097152

abbrev pub most_input_numbers : ℕ
most_input_numbers = 65536
