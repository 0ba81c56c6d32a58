-- A file that is put at the place of its name, or behind the others.
use Rattle.std.proofs.Common.{◌≡◌, ◌<◌, ◌≤◌, ℕ, List, [], ◌∷◌, ◌++◌, length, set, Some, None, refl, arith, bytes_eq, position, if◌then◌else◌}
use Rattle.std.specs.List.{position_or_len}
use Rattle.std.proofs.lemmas.Slice.Eq.{bytes_eq-Decides}
use Rattle.mentat_io.specs.Shelf.{Files, has_name, file_named}
use Rattle.mentat_io.specs.Memory.MemShelf.{with_file}

set_first : (fs : Files) (name bytes : List ℕ) → position_or_len (has_name name) fs < length fs → set fs (position_or_len (has_name name) fs) (name, bytes) ≡ with_file fs name bytes
set_first [] name bytes h = absurd (omega arith)
set_first (f ∷ fs) name bytes h = grind (arith, set_first fs name bytes)

push_last : (fs : Files) (name bytes : List ℕ) → length fs ≤ position_or_len (has_name name) fs → fs ++ (name, bytes) ∷ [] ≡ with_file fs name bytes
push_last [] name bytes h = refl
push_last (f ∷ fs) name bytes h = grind (arith, push_last fs name bytes)

pub put_at : (fs : Files) (name bytes : List ℕ) (at : ℕ) → Some at ≡ position (has_name name) fs → set fs at (name, bytes) ≡ with_file fs name bytes
put_at fs name bytes at h = grind (arith, set_first fs name bytes)

pub put_behind : (fs : Files) (name bytes : List ℕ) → None ≡ position (has_name name) fs → fs ++ (name, bytes) ∷ [] ≡ with_file fs name bytes
put_behind fs name bytes h = grind (arith, push_last fs name bytes)

-- what stands under each name afterwards
pub named_after_put : (fs : Files) (name bytes n : List ℕ) → file_named (with_file fs name bytes) n ≡ (if bytes_eq name n then Some bytes else file_named fs n)
named_after_put [] name bytes n = grind arith
named_after_put (f ∷ fs) name bytes n =
    grind (arith, named_after_put fs name bytes n, bytes_eq-Decides f.0 name, bytes_eq-Decides name n, bytes_eq-Decides f.0 n)
