-- Files by their names, and what reading one of them says.
use Rattle.std.specs.Prelude.{◌≡◌, ℕ, Bool, List, Option, None, Some, Ok, Err, Result, take, option_map, bytes_eq, find, ⊤, IsSome}
use Rattle.mentat_io.specs.declared.failed.ShelfFault.{ShelfFault}
use Rattle.mentat_io.specs.declared.failed.ShelfFault.TheVariants.{Failed, NoMemory}

-- each file's name and its bytes
abbrev pub Files : Type 0
Files = List (List ℕ × List ℕ)

abbrev pub has_name : List ℕ → List ℕ × List ℕ → Bool
has_name name file = bytes_eq file.0 name

-- the bytes of the file of that name, where there is one
abbrev pub file_named : Files → List ℕ → Option (List ℕ)
file_named files name = option_map (λ file. file.1) (find (has_name name) files)

-- a fact, where the call failed
abbrev pub OnFailed : {T : Type 0} → Result T ShelfFault → Type 0 → Type 0
OnFailed (Ok x) P = ⊤
OnFailed (Err Failed) P = P
OnFailed (Err NoMemory) P = ⊤

-- the file is there, and these are its first `cap` bytes
abbrev pub IsStartOf : ℕ → Files → List ℕ → List ℕ → Type 0
IsStartOf cap files name bytes = option_map (λ file. take cap file) (file_named files name) ≡ Some bytes

-- the files are told, and the call has not failed on one of them
abbrev pub ReadsSurely : {T : Type 0} → Option Files → List ℕ → Result T ShelfFault → Type 0
ReadsSurely None name result = ⊥
ReadsSurely (Some files) name result = IsSome (file_named files name) → OnFailed result ⊥
