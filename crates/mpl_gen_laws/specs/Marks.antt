-- Marks of uses for worked programs.
use Rattle.std.specs.Prelude.{ℕ, Bool, true}

-- each use is marked
abbrev pub everywhere : ℕ → Bool
everywhere node = true
