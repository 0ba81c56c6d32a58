-- What was read of a reader, piece after piece, as the start of what it had left.
use Rattle.std.proofs.Common.{◌≡◌, ◌≤◌, ℕ, List, [], ◌++◌, Option, Some, None, length, take, IfSome, arith}
use Rattle.std.proofs.lemmas.Grind.{common_steps}
use Rattle.std.specs.Io.KnownBytes.{Consumes, IsAtEnd}
use Rattle.std.proofs.KnownBytes.{Consumes-trans, Consumes-nil}
use Rattle.mentat_io.specs.System.Opened.{IsStart}

-- before the first piece
pub nothing_read : (left : Option (List ℕ)) → Consumes left left []
nothing_read left = Consumes-nil left

-- after one more
pub more_read : (before left now : Option (List ℕ)) (bytes piece : List ℕ) → Consumes before left bytes → Consumes left now piece → Consumes before now (bytes ++ piece)
more_read before left now bytes piece h more = Consumes-trans before left now bytes piece h more

-- as many bytes as were asked for
pub full_start : (before now : Option (List ℕ)) (bytes : List ℕ) (cap : ℕ) → Consumes before now bytes → length bytes ≡ cap → IsStart cap before bytes
full_start None now bytes cap h e = tt
full_start (Some xs) None bytes cap h e = absurd h
full_start (Some xs) (Some ys) bytes cap h e = rw (h, ← e) (grind (arith, common_steps))

-- all bytes to the end
pub whole_start : (before now : Option (List ℕ)) (bytes : List ℕ) (cap : ℕ) → Consumes before now bytes → IsAtEnd now → length bytes ≤ cap → IsStart cap before bytes
whole_start None now bytes cap h end fits = tt
whole_start (Some xs) None bytes cap h end fits = absurd h
whole_start (Some xs) (Some ys) bytes cap h end fits = rw (h, end) (grind (arith, common_steps))
