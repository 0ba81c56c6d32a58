-- A number that falls with each step: no run goes on for ever.
use Rattle.std.specs.Prelude.{ℕ, ◌+◌, ◌-◌, ◌*◌, length}
use Rattle.mpl_body_code.specs.Machine.{Machine, Setting}

-- Between two turns, and before a caller goes on, the place only rises, and it stays within the code.
abbrev pub steps_left : Setting → Machine → ℕ
steps_left S x = (2 * (S.turns - x.turns) + length x.callers) * (length S.image.code + 2) + (length S.image.code + 1 - x.frame.place)
