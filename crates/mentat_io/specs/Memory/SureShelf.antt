-- A shelf in memory whose reads never fail on a file that it has.
use Rattle.std.specs.Prelude.{ℕ, List, is_none, if◌then◌else◌}
use Rattle.mentat_io.specs.Causes.{one_more}
use Rattle.mentat_io.specs.Shelf.{Files, file_named}

-- its files, and how many calls asked for a file that is missing
pub record SureState : Type 0 where
  pub files : Files
  pub faults : ℕ

-- a file was asked for
abbrev pub after_read : SureState → List ℕ → SureState
after_read s name =
    record { files = s.files; faults = if is_none (file_named s.files name) then one_more s.faults else s.faults }
