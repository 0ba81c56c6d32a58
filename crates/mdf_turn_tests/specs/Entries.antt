-- What a list of entries says of the workers' actors.
use Rattle.std.specs.Prelude.{ℕ, Bool, false, List, Option, Some, find, reverse, ◌==◌}
use Rattle.std.specs.Option.{option_map_or}
use Rattle.mdf_turn_tests.specs.declared.entry.Entry.{Entry}

abbrev pub worker_of : Entry → Option ℕ
worker_of e = Some e.worker

-- whether the worker's last entry took its actor out
abbrev pub is_out : List Entry → ℕ → Bool
is_out log x = option_map_or (λ e. e.takes) (find (λ e. e.worker == x) (reverse log)) false
