-- What stands in a journal. Here and below a journal is read from its end: the newest entry is the first of the list,
-- so that behind an entry stands what was before it.
use Rattle.std.specs.Prelude.{ℕ, Bool, false, ◌&&◌, ◌||◌, List, [], ◌∷◌, Option, Some, None, if◌then◌else◌, nat_eq}
use Rattle.mdf_mean.specs.declared.entry.Entry.{Entry}
use Rattle.mdf_mean.specs.declared.entry.Entry.TheVariants.{Arrive, Accept, Reply}
use Rattle.mdf_mean.specs.Meanings.{Answers}

-- a call by the number of the body that made it, and its own number there
pub record CallName : Type 0 where
  pub body : ℕ
  pub call : ℕ

abbrev pub is_named : ℕ → ℕ → ℕ → ℕ → Bool
is_named i k body call = nat_eq body i && nat_eq call k

-- the replies to the calls of a body
abbrev pub replies_to : ℕ → List Entry → Answers
replies_to i [] = []
replies_to i (Arrive body call ∷ before) = replies_to i before
replies_to i (Accept number body call ∷ before) = replies_to i before
replies_to i (Reply body call known ∷ before) = if nat_eq body i then (call, known) ∷ replies_to i before else replies_to i before

abbrev pub has_arrived : ℕ → ℕ → List Entry → Bool
has_arrived i k [] = false
has_arrived i k (Arrive body call ∷ before) = is_named i k body call || has_arrived i k before
has_arrived i k (Accept number body call ∷ before) = has_arrived i k before
has_arrived i k (Reply body call known ∷ before) = has_arrived i k before

-- the number of the body that a call was accepted as
abbrev pub accepted_as : ℕ → ℕ → List Entry → Option ℕ
accepted_as i k [] = None
accepted_as i k (Arrive body call ∷ before) = accepted_as i k before
accepted_as i k (Accept number body call ∷ before) = if is_named i k body call then Some number else accepted_as i k before
accepted_as i k (Reply body call known ∷ before) = accepted_as i k before

abbrev pub has_reply : ℕ → ℕ → List Entry → Bool
has_reply i k [] = false
has_reply i k (Arrive body call ∷ before) = has_reply i k before
has_reply i k (Accept number body call ∷ before) = has_reply i k before
has_reply i k (Reply body call known ∷ before) = is_named i k body call || has_reply i k before

-- whether a body was accepted with this number
abbrev pub is_taken : ℕ → List Entry → Bool
is_taken n [] = false
is_taken n (Arrive body call ∷ before) = is_taken n before
is_taken n (Accept number body call ∷ before) = nat_eq number n || is_taken n before
is_taken n (Reply body call known ∷ before) = is_taken n before
