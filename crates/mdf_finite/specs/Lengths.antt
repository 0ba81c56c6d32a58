-- How long a log may be.
use Rattle.std.specs.Prelude.{ℕ, ◌+◌, ◌*◌}

-- the most events of a machine that took so many turns
abbrev pub most_events : ℕ → ℕ
most_events turns = 32 * (turns + 1)
