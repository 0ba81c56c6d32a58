-- A shelf in memory.
use Rattle.std.specs.Prelude.{ℕ, Bool, ◌||◌, List, [], ◌∷◌, is_none, bytes_eq, if◌then◌else◌}
use Rattle.mentat_io.specs.Memory.Plan.{Plan, fails_next, none_to_come, after_call}
use Rattle.mentat_io.specs.Shelf.{Files, file_named}

-- its files, and which calls are to fail
pub record ShelfState : Type 0 where
  pub files : List (List ℕ × List ℕ)
  pub plan : Plan

-- no call is still to fail
abbrev pub is_sure : ShelfState → Bool
is_sure s = none_to_come s.plan.failing s.plan.calls

-- the call fails: it is to, or the file is missing
abbrev pub refuses : ShelfState → List ℕ → Bool
refuses s name = fails_next s.plan || is_none (file_named s.files name)

-- a file was asked for
abbrev pub after_read : ShelfState → List ℕ → ShelfState
after_read s name = record { files = s.files; plan = after_call (refuses s name) s.plan }

-- the files with those bytes under that name, added or in place of what stood there
abbrev pub with_file : Files → List ℕ → List ℕ → Files
with_file [] name bytes = (name, bytes) ∷ []
with_file (f ∷ fs) name bytes = if bytes_eq f.0 name then (name, bytes) ∷ fs else f ∷ with_file fs name bytes
