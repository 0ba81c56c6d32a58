-- The rows of actors, and how one of them is changed.
use Rattle.std.specs.Prelude.{ℕ, zero, suc, ◌-◌, List, [], ◌∷◌, ◌++◌, length, take, Option, Some, None, slice_get}
use Rattle.std.specs.Option.{option_and_then}
use Rattle.mdf_vm.specs.declared.frame.Frame.{Frame}
use Rattle.mdf_machine.specs.Internal.Children.{child_in}
use Rattle.mdf_machine.specs.declared.rows.Row.{Row}

-- the item at a place is changed
abbrev pub changed : {A : Type 0} → (A → A) → ℕ → List A → List A
changed f place [] = []
changed f zero (x ∷ xs) = f x ∷ xs
changed f (suc place) (x ∷ xs) = x ∷ changed f place xs

abbrev pub with_child : ℕ → Row → Row
with_child child row = record row { children = row.children ++ child ∷ [] }

abbrev pub without_child : Row → Row
without_child row = record row { children = take (length row.children - 1) row.children }

abbrev pub with_frame : Frame → Row → Row
with_frame frame row = record row { frame = Some frame }

abbrev pub without_frame : Row → Row
without_frame row = record row { frame = None }

abbrev pub child_at : List Row → ℕ → ℕ → Option ℕ
child_at rows actor call = option_and_then (λ row. child_in row.children call) (slice_get rows actor)

abbrev pub frame_at : List Row → ℕ → Option Frame
frame_at rows actor = option_and_then (λ row. row.frame) (slice_get rows actor)
