-- A table of names beside the declarations that it is of: one more behind the others.
use Rattle.std.proofs.Common.{◌≡◌, ℕ, Bool, true, false, Option, Some, None, if◌then◌else◌, refl}
use Rattle.mpl_scope.specs.First.{or_else}

pub chosen_number : (o : Option ℕ) (b : Bool) (n : ℕ) (rest : Option ℕ) → or_else (or_else o (if b then Some n else None)) rest ≡ or_else o (if b then Some n else rest)
chosen_number None true n rest = refl
chosen_number None false n rest = refl
chosen_number (Some m) b n rest = refl
