-- Words for the caller on top.
use Rattle.std.specs.Prelude.{◌≡◌, Bool, true, false, List, [], ◌∷◌, drop, ℤ}
use Rattle.mdf_code.specs.Alone.{Held}
use Rattle.mdf_code.specs.Frames.{Caller}
use Rattle.mdf_code.specs.Stacks.{pushed}

abbrev pub HandedIf : Bool → List ℤ → List (Caller Held) → List (Caller Held) → Type 0
HandedIf false words before after = (before ≡ []) × (after ≡ before)
HandedIf true words before after =
    (caller : Caller Held) × (before ≡ caller ∷ drop 1 before) × (after ≡ record caller { words = pushed words caller.words } ∷ drop 1 before)
